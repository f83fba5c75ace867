-- The parts of what came, as bits and as the bytes that hold them, and the parts of a written burst.
-- Assumes nothing.
use mathlib.Core.Path.{◌≡◌, sym, ap, ◌∙◌}
use mathlib.Core.Bool.{Bool, true}
use mathlib.Core.List.{List, ◌++◌, map, map-append, append_assoc}
use Prim.Native.Nat.{ℕ, ◌≤◌}
use native.Mathlib.Omega.{arith}
use lib.ListN.{length, take, drop, length-append, length-drop}
use lib.Seq.{take_at, drop_at, length-take-le}
use borrow.Rule.Slice.PartMut.{put_mid}
use Rattle.lists.specs.Over.{over, Room}
use Rattle.lists.proofs.Over.{put_mid-over, over-length, over-over}
use Rattle.lists.proofs.Every.{every_drop}
use Rattle.lists.proofs.Parts.{map-take, map-drop, drop-take}
use Rattle.bits.specs.Bits.{is_one, byte, all_bits}
use Rattle.bits.proofs.Bits.{bits-bytes}
use Rattle.bits.specs.Row.{high_first, differences}
use Rattle.bits.proofs.Differences.{differences_self}
use Rattle.bits.proofs.Row.{length-high_first}
use Rattle.blocks.specs.Block.{block_of, image_of}
use Rattle.links.specs.Rows.{row_of}
use Rattle.words.specs.Word.{word_of, word_bits}
use Rattle.words.proofs.Calls.{length-word}
use Rattle.slots.specs.Burst.{training, training_length, head_length, head_part, training_part, word_part, block_part, is_slot_link, head_of, burst_of}
use Rattle.slots.specs.Near.{NearHead}
use Rattle.slots.proofs.Links.{slot-has-word}
use Rattle.slots.proofs.Symbols.{length-training, length-bytes}

module _ (came : List Bool) where
  pub part_of-bytes : (n m : ℕ) → take n (drop m (map byte came)) ≡ map byte (take n (drop m came))
  part_of-bytes n m = ap (take n) (sym (map-drop byte m came)) ∙ sym (map-take byte n (drop m came))

  pub rest-of-bytes : block_part (map byte came) ≡ map byte (block_part came)
  rest-of-bytes = sym (map-drop byte head_length came)

  -- and back
  pub part_back : (n m : ℕ) → map is_one (take n (drop m (map byte came))) ≡ take n (drop m came)
  part_back n m = ap (map is_one) (part_of-bytes n m) ∙ bits-bytes (take n (drop m came))

  pub rest_back : map is_one (block_part (map byte came)) ≡ block_part came
  rest_back = ap (map is_one) rest-of-bytes ∙ bits-bytes (block_part came)

-- ---- what is known of a head is known of its parts
module _ (burst : List ℕ) where
  pub word-long : head_length ≤ length burst → length (word_part burst) ≡ 32
  word-long h = length-take-le 32 (drop training_length burst) (omega (arith, h, length-drop training_length burst))

  pub word_bits_lem : all_bits (head_part burst) ≡ true → all_bits (word_part burst) ≡ true
  word_bits_lem e = ap all_bits (sym (drop-take training_length head_length burst)) ∙ every_drop _ training_length (head_part burst) e

-- ---- the parts of a head, and of one with something behind it
head_parts : (link : ℕ) → map byte (head_of link) ≡ map byte training ++ map byte (word_bits link)
unfolding head_of
head_parts link = map-append byte training (word_bits link)

pub length-head-bits : (link : ℕ) → length (head_of link) ≡ head_length
unfolding head_of
length-head-bits link = omega (arith, length-append training (word_bits link), length-training, length-high_first 32 (word_of link))

-- the training laid, and the link word behind it
pub head_laid : (link : ℕ) (old mid row : List ℕ) (word : ℕ) → head_length ≤ length old → mid ≡ over 0 (map byte training) old → word ≡ word_of link
    → row ≡ map byte (high_first (length (take 32 (drop 54 mid))) word) → put_mid 54 32 mid row ≡ over 0 (map byte (head_of link)) old
head_laid link old mid row word room first w second =
    let fits : Room 0 (map byte training) old = omega (arith, room, length-bytes) in
    let long : 32 ≤ length (drop 54 mid) = omega (arith, room, ap length first, over-length 0 (map byte training) old fits, length-drop 54 mid) in
    let behind : put_mid 54 32 mid row ≡ over 54 (map byte (word_bits link)) mid =
    rw (second, length-take-le 32 (drop 54 mid) long, w) (put_mid-over 54 32 (map byte (word_bits link)) mid (sym (length-word link))) in
    let both = over-over 0 (map byte training) (map byte (word_bits link)) old fits in
    behind ∙ rw (first, head_parts link, ← both, length-bytes)

module _ (link : ℕ) (rest : List Bool) where
  training-first : head_of link ++ rest ≡ training ++ (word_bits link ++ rest)
  unfolding head_of
  training-first = append_assoc training (word_bits link) rest

  training-of : training_part (head_of link ++ rest) ≡ training
  training-of = ap training_part training-first ∙ take_at training (word_bits link ++ rest) training_length length-training

  word_part-head_of : word_part (head_of link ++ rest) ≡ word_bits link
  word_part-head_of =
      ap word_part training-first
      ∙ ap (take 32) (drop_at training (word_bits link ++ rest) training_length length-training)
      ∙ take_at (word_bits link) rest 32 (length-high_first 32 (word_of link))

  pub block_part-head_of : block_part (head_of link ++ rest) ≡ rest
  block_part-head_of = drop_at (head_of link) rest head_length (length-head-bits link)

  -- a slot link's head is near itself
  pub near_head : is_slot_link link ≡ true → NearHead (head_of link ++ rest) link 0
  near_head slot =
      let none = ap (differences (word_bits link)) word_part-head_of ∙ differences_self (word_bits link) in
      record {
        slot = slot;
        long = omega (arith, length-append (head_of link) rest, length-head-bits link);
        trained = omega (arith, ap (differences training) training-of, differences_self training);
        word = record { known = slot-has-word link slot; count = none; within = omega arith };
      }

-- ---- the parts of a burst are those that it is made of
module _ (link : ℕ) (datagram : List ℕ) where
  abbrev image : List Bool
  image = image_of (row_of link) (block_of (row_of link) datagram)

  pub training-of-burst : training_part (burst_of link datagram) ≡ training
  unfolding burst_of
  training-of-burst = training-of link image

  pub word_of-burst : word_part (burst_of link datagram) ≡ word_bits link
  unfolding burst_of
  word_of-burst = word_part-head_of link image

  pub block_of-burst : block_part (burst_of link datagram) ≡ image
  unfolding burst_of
  block_of-burst = block_part-head_of link image
