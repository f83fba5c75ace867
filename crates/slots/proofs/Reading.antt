-- What the readers know where they have come so far.
-- Assumes nothing.
use mathlib.Core.Path.{◌≡◌, sym, ap, ◌∙◌}
use mathlib.Core.Bool.{true, true≢false}
use mathlib.Core.Logic.{◌⊎◌, inl, inr}
use mathlib.Core.List.{List}
use Prim.Native.Nat.{ℕ, ◌-◌, ◌≤◌}
use native.Mathlib.Omega.{arith}
use lib.ListN.{length, take}
use lib.Seq.{length-take-le}
use Rattle.std.proofs.lemmas.Bool.Decides.{nat_tests}
use Rattle.answers.specs.Numbers.{done, no_word}
use Rattle.answers.specs.Outcome.{Wrote}
use Rattle.lists.proofs.Over.{over-nil}
use Rattle.lists.proofs.Parts.{part_rest}
use Rattle.bits.specs.Bits.{all_bits}
use Rattle.blocks.specs.declared.Block.{Block}
use Rattle.blocks.specs.Calls.{read_block}
use Rattle.words.specs.declared.Word.{Word}
use Rattle.words.specs.Calls.{read_word, refused as refused_word}
use Rattle.words.proofs.Ways as w
use Rattle.slots.specs.declared.Slot.{Slot}
use Rattle.slots.specs.declared.head.Head.{Head}
use Rattle.slots.specs.Burst.{training_length, head_length, head_part, training_part, word_part, block_part}
use Rattle.slots.specs.Head.{read_head}
use Rattle.slots.specs.Calls.{both, read_slot}
use Rattle.slots.proofs.Calls.{refusal_number, head-short, read-joined}
use Rattle.slots.proofs.Links.{slot-offered, image_small}
use Rattle.slots.proofs.Parts.{word-long, word_bits_lem}

-- ---- the head
module _ (burst : List ℕ) (long : head_length ≤ length burst) where
  pub training_long : length (training_part burst) ≡ training_length
  training_long = length-take-le training_length burst (omega arith)

  -- the word of a head that is all bits is read, or refused with 6
  pub word_told : all_bits (head_part burst) ≡ true → ((read_word (word_part burst)).status ≡ done) ⊎ (read_word (word_part burst) ≡ refused_word no_word)
  word_told all = goes (w.reading-goes (word_part burst))
    where
      goes : w.Reading (word_part burst) → ((read_word (word_part burst)).status ≡ done) ⊎ (read_word (word_part burst) ≡ refused_word no_word)
      goes (w.no_length l e) = absurd (l (word-long burst long))
      goes (w.no_bits l a e) = absurd (true≢false (sym (word_bits_lem burst all) ∙ a))
      goes (w.none_near l a f e) = inr e
      goes (w.reads l a link wrong n e) = inl (ap (λ (word : Word). word.status) e)

pub ruleset head_reading = (nat_tests, image_small, slot-offered, training_long, word_told, refusal_number)

-- ---- the burst: what is left of the buffer by reading the rest as a block is left by reading the burst
pub joins : (burst old new : List ℕ) {head : Head} {block : Block} {answer : Slot} → head ≡ read_head burst → head.status ≡ done
    → Wrote (read_block head.link (take (length burst - head_length) (block_part burst)) (length old)) old new block
    → answer ≡ both head block → Wrote (read_slot burst (length old)) old new answer
joins burst old new {head} e z w a =
    let whole = read-joined burst (length old) (sym (ap (λ (h : Head). h.status) e) ∙ z) in
    rw (whole, a, ← e) (record { answers = ap (both head) (rw (part_rest head_length burst) at w.answers); leaves = rw (part_rest head_length burst) at w.leaves })

pub ruleset slot_reading = (nat_tests, refusal_number, over-nil, head-short)
