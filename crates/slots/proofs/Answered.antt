-- A burst that is near a valid block of a slot link is answered with its datagram, and all three counts.
-- Assumes nothing.
use mathlib.Core.Path.{◌≡◌, refl, sym, ap, ◌∙◌}
use mathlib.Core.Bool.{Bool, true}
use mathlib.Core.List.{List, map}
use Prim.Native.Nat.{ℕ, ◌≤◌}
use native.Mathlib.Omega.{arith}
use lib.ListN.{drop, length-map, length-drop}
use lib.Seq.{length-take-le}
use Rattle.answers.specs.Outcome.{Outcome}
use Rattle.lists.proofs.Parts.{map-take}
use Rattle.bits.specs.Bits.{byte, all_bits}
use Rattle.bits.specs.Row.{differences}
use Rattle.bits.proofs.Bits.{all_bits-map}
use Rattle.links.specs.Rows.{row_of}
use Rattle.links.specs.Sizes.{bytes_held}
use Rattle.blocks.specs.Block.{image_of, datagram_of}
use Rattle.blocks.specs.declared.Block.{Block}
use Rattle.blocks.specs.Calls.{read_block}
use Rattle.blocks.proofs.Answered.{near_answered}
use Rattle.words.specs.Calls.{read_word, found}
use Rattle.words.proofs.Exact.{near_found}
use Rattle.slots.specs.declared.head.Head.{Head}
use Rattle.slots.specs.Burst.{training, training_length, head_length, head_part, training_part, word_part, block_part}
use Rattle.slots.specs.Near.{NearHead, Near}
use Rattle.slots.specs.Head.{found_head, wrong_in_training, read_head}
use Rattle.slots.specs.Calls.{both, joined, read_slot}
use Rattle.slots.specs.Working.Reading.{reading}
use Rattle.slots.proofs.Calls.{word-slot, head-word, read-joined}
use Rattle.slots.proofs.Links.{slot-offered}
use Rattle.slots.proofs.Parts.{part_of-bytes, rest-of-bytes, part_back}

-- ---- the head
module _ (came : List Bool) (link wordWrong : ℕ) (n : NearHead came link wordWrong) where
  head-bits : all_bits (head_part (map byte came)) ≡ true
  head-bits = ap all_bits (sym (map-take byte head_length came)) ∙ all_bits-map (head_part came)

  trained : wrong_in_training (map byte came) ≡ differences training (training_part came)
  trained = ap (differences training) (part_back came training_length 0)

  word_read : read_word (word_part (map byte came)) ≡ found link wordWrong
  word_read =
      ap read_word (part_of-bytes came 32 training_length)
      ∙ near_found (word_part came) (length-take-le 32 (drop training_length came) (omega (arith, n.long, length-drop training_length came))) link wordWrong n.word

  abbrev head : Head
  head = found_head link wordWrong (differences training (training_part came))

  head_read : read_head (map byte came) ≡ head
  head_read =
      head-word (map byte came) (omega (arith, length-map came byte, n.long)) head-bits word_read trained n.trained
      ∙ word-slot (found link wordWrong) _ refl n.slot

  -- the rest is read as a block, and joined with it
  pub rest-joined : (room : ℕ) {block : Outcome Block} → read_block link (map byte (block_part came)) room ≡ block
      → read_slot (map byte came) room ≡ joined head block
  rest-joined room e = read-joined (map byte came) room (rw head_read) ∙ rw (head_read, rest-of-bytes came, e)

pub burst-answered : (came : List Bool) (link wordWrong : ℕ) (u : List Bool) → Near came link wordWrong u → (room : ℕ) → bytes_held (row_of link) ≤ room
    → read_slot (map byte came) room ≡ reading (datagram_of (row_of link) u) (differences (image_of (row_of link) u) (block_part came)) link wordWrong (differences training (training_part came))
unfolding both
burst-answered came link wordWrong u n room fits =
    rest-joined came link wordWrong n.head room
    (near_answered link (slot-offered link n.head.slot) (block_part came) (omega (arith, n.size, length-drop head_length came)) room fits u n.block)
