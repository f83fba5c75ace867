-- What is written as a slot burst: its parts, and how long they are.
-- Assumes nothing.
use mathlib.Core.Path.{◌≡◌, ap, ◌∙◌}
use mathlib.Core.Bool.{true}
use mathlib.Core.List.{List, [], ◌++◌, map, map-append, append-nil, append_assoc}
use Prim.Native.Nat.{ℕ, ◌+◌, ◌-◌, ◌≤◌}
use native.Mathlib.Nat.{le_of_eq}
use native.Mathlib.Omega.{arith}
use lib.ListN.{length, take, drop, length-append, length-map, length-drop, drop_of_length-le}
use lib.Seq.{take_at, drop_at, drop-drop}
use borrow.Rule.Slice.PartMut.{put_mid}
use Rattle.answers.specs.Written.{wrote}
use Rattle.answers.specs.Outcome.{Wrote}
use Rattle.answers.proofs.Task.{write_done}
use Rattle.answers.proofs.Wrote.{lays}
use Rattle.lists.specs.Over.{over}
use Rattle.lists.proofs.Over.{over-nil, over_zero}
use Rattle.lists.proofs.Parts.{part_rest}
use Rattle.bits.specs.Bits.{byte}
use Rattle.links.specs.declared.Row.{Row}
use Rattle.links.specs.Rows.{row_of}
use Rattle.links.specs.Sizes.{bytes_held, image_length}
use Rattle.links.proofs.Good.{good}
use Rattle.blocks.specs.Block.{block_of, image_of}
use Rattle.blocks.proofs.Blocks.{long-image}
use Rattle.slots.specs.Burst.{head_length, is_slot_link, burst_length, head_of, burst_of}
use Rattle.slots.specs.Calls.{slot_task, write_slot}
use Rattle.slots.proofs.Links.{slot-offered, slot-has-word, image_small}
use Rattle.slots.proofs.Parts.{length-head-bits}

module _ (link : ℕ) (datagram : List ℕ) where
  -- the head's bits and the block's, as bytes
  abbrev head : List ℕ
  head = map byte (head_of link)

  abbrev block : List ℕ
  block = map byte (image_of (row_of link) (block_of (row_of link) datagram))

  length-head : length head ≡ head_length
  length-head = simp length-map (length-head-bits link)

  burst-parts : map byte (burst_of link datagram) ≡ head ++ block
  unfolding burst_of
  burst-parts = map-append byte (head_of link) (image_of (row_of link) (block_of (row_of link) datagram))

  as_long : is_slot_link link ≡ true → length (map byte (burst_of link datagram)) ≡ burst_length link
  as_long o =
      omega (arith, ap length burst-parts, length-append head block, length-head, long-image (row_of link) (good link (slot-offered link o)) datagram)

  -- the head, and then the block in the part behind it, are laid as one
  burst_laid : (old mid part : List ℕ) → mid ≡ over 0 head old
      → part ≡ over 0 block (take (length mid - head_length) (drop head_length mid))
      → put_mid head_length (length mid - head_length) mid part ≡ over 0 (map byte (burst_of link datagram)) old
  burst_laid old mid part first second =
      let laid = first ∙ over_zero head old in
      let front : take head_length mid ≡ head = ap (take head_length) laid ∙ take_at head (drop (length head) old) head_length length-head in
      let rest : drop head_length mid ≡ drop (length head) old = ap (drop head_length) laid ∙ drop_at head (drop (length head) old) head_length length-head in
      let nothing : drop (length mid - head_length) (drop head_length mid) ≡ [] = drop_of_length-le (drop head_length mid) (le_of_eq (length-drop head_length mid)) in
      rw (
        second,
        over_zero block,
        nothing,
        append-nil,
        part_rest head_length mid,
        front,
        rest,
        burst-parts,
        over_zero (head ++ block),
        length-append head block,
        append_assoc head block,
        drop-drop,
      )

  -- so a writer that has the link's row, and N of it, shows its contract
  pub burst_written : (row : Row) (size : ℕ) (old mid part : List ℕ) → is_slot_link link ≡ true → row ≡ row_of link → size ≡ image_length row
      → length datagram ≤ bytes_held row → head_length + size ≤ length old → mid ≡ over 0 head old
      → part ≡ over 0 (map byte (image_of row (block_of row datagram))) (take (length mid - head_length) (drop head_length mid))
      → Wrote (write_slot link datagram (length old)) old (put_mid head_length (length mid - head_length) mid part) (wrote (head_length + size))
  burst_written row size old mid part o named sized fits room first second =
      let n : size ≡ image_length (row_of link) = sized ∙ ap image_length named in
      let done = write_done (slot_task link datagram) (length old) o (rw named at fits) (rw n at room) in
      lays done (ap wrote (omega (arith, n, as_long o))) (burst_laid old mid part first (rw named at second))

pub long-burst : (link : ℕ) → is_slot_link link ≡ true → (datagram : List ℕ) → length datagram ≤ bytes_held (row_of link)
    → length (map byte (burst_of link datagram)) ≡ burst_length link
long-burst link o datagram fits = as_long link datagram o

pub ruleset slot_writing = (image_small, slot-offered, slot-has-word, over-nil, burst_written)
