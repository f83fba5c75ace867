-- The ways that reading a slot burst goes, line by line as document 01 numbers them: 2, 4, 5, 6, 1 of the head, 2, 3, 4, 7 of the
-- rest, done.
-- Assumes nothing.
use mathlib.Core.Path.{◌≡◌, refl, sym, ap, ◌∙◌}
use mathlib.Core.Bool.{Bool, true, false, true≢false}
use mathlib.Core.List.{List, map}
use Prim.Native.Nat.{ℕ, ◌<◌, ◌≤◌}
use native.Mathlib.Omega.{arith}
use lib.Dec.{leb, ltb}
use lib.ListN.{length, length-map, length-drop}
use borrow.Author.Tests.{leb-true, leb-false, ltb-true, ltb-false}
use Rattle.answers.specs.Numbers.{not_offered, wrong_length, no_room, no_bit, no_training, no_word, no_block}
use Rattle.answers.specs.Outcome.{Outcome}
use Rattle.bits.specs.Bits.{is_one, byte, all_bits}
use Rattle.bits.specs.Row.{differences}
use Rattle.links.specs.Rows.{row_of}
use Rattle.links.specs.Sizes.{bytes_held, image_length}
use Rattle.blocks.specs.declared.Block.{Block}
use Rattle.blocks.specs.Block.{image_of, datagram_of}
use Rattle.blocks.specs.Near.{Near as NearBlock}
use Rattle.blocks.specs.Calls.{read_block}
use Rattle.blocks.proofs.WaysOfReading as b
use Rattle.words.specs.declared.Word.{Word}
use Rattle.words.specs.Near.{Near as NearWord}
use Rattle.words.specs.Calls.{read_word, found, refused as refusedWord}
use Rattle.words.proofs.Ways as w
use Rattle.slots.specs.Burst.{training, training_length, head_length, head_part, word_part, block_part, is_slot_link}
use Rattle.slots.specs.Near.{Near}
use Rattle.slots.specs.Head.{refused_head, found_head, wrong_in_training, named_head, read_head}
use Rattle.slots.specs.Calls.{refused, both, joined, read_slot}
use Rattle.slots.specs.Working.Reading.{reading}
use Rattle.slots.proofs.Calls.{word-refused, word-no-slot, word-slot, head-short, head-no_bit, head-no_training, head-word, read-refused, read-joined}
use Rattle.slots.proofs.Links.{slot-offered}
use Rattle.slots.proofs.Parts.{part_back, rest_back, word-long, word_bits_lem}

-- the head is there, made of bits, with the training near
pub record Trained (burst : List ℕ) : Type 0 where
  pub long : head_length ≤ length burst
  pub bits : all_bits (head_part burst) ≡ true
  pub within : wrong_in_training burst ≤ 8

-- and its word is near that of a link, which is a slot link
pub record Named (burst : List ℕ) (link wrong : ℕ) : Type 0 where
  pub trained : Trained burst
  pub near : NearWord (map is_one (word_part burst)) link wrong
  pub read : read_word (word_part burst) ≡ found link wrong

pub record Headed (burst : List ℕ) (link wrong : ℕ) : Type 0 where
  pub named : Named burst link wrong
  pub slot : is_slot_link link ≡ true

-- as many bits behind it as the link's images have, and room for the datagram
pub record Sized (burst : List ℕ) (room link : ℕ) : Type 0 where
  pub size : length (block_part burst) ≡ image_length (row_of link)
  pub fits : bytes_held (row_of link) ≤ room

pub data Reading (burst : List ℕ) (room : ℕ) : Type 0 where
  too_few : length burst < head_length → read_slot burst room ≡ refused wrong_length → Reading burst room
  no_bits : head_length ≤ length burst → all_bits (head_part burst) ≡ false → read_slot burst room ≡ refused no_bit → Reading burst room
  no_training_lem : head_length ≤ length burst → all_bits (head_part burst) ≡ true → 8 < wrong_in_training burst → read_slot burst room ≡ refused no_training → Reading burst room
  no_word_lem : Trained burst → w.NoneNear (map is_one (word_part burst)) 64 → read_slot burst room ≡ refused no_word → Reading burst room
  no_slot : (link wrong : ℕ) → Named burst link wrong → is_slot_link link ≡ false → read_slot burst room ≡ refused not_offered → Reading burst room
  no_length : (link wrong : ℕ) → Headed burst link wrong → (length (block_part burst) ≡ image_length (row_of link) → ⊥) → read_slot burst room ≡ refused wrong_length → Reading burst room
  too_short : (link wrong : ℕ) → Headed burst link wrong → length (block_part burst) ≡ image_length (row_of link) → room < bytes_held (row_of link)
      → read_slot burst room ≡ refused no_room → Reading burst room
  rest-no-bits : (link wrong : ℕ) → Headed burst link wrong → Sized burst room link → all_bits (block_part burst) ≡ false → read_slot burst room ≡ refused no_bit → Reading burst room
  none_near : (link wrong : ℕ) → Headed burst link wrong → Sized burst room link → all_bits (block_part burst) ≡ true
      → ((u : List Bool) → NearBlock (row_of link) (map is_one (block_part burst)) u → ⊥) → read_slot burst room ≡ refused no_block → Reading burst room
  reads : (link wrong : ℕ) → Headed burst link wrong → Sized burst room link → all_bits (block_part burst) ≡ true
      → (u : List Bool) → NearBlock (row_of link) (map is_one (block_part burst)) u
      → read_slot burst room ≡ reading (datagram_of (row_of link) u) (differences (image_of (row_of link) u) (map is_one (block_part burst))) link wrong (wrong_in_training burst) → Reading burst room

module _ (burst : List ℕ) (room : ℕ) where
  -- a refusal of the head is the answer
  pub head-refuses : (number : ℕ) → (number ≡ 0 → ⊥) → read_head burst ≡ refused_head number → read_slot burst room ≡ refused number
  head-refuses number h e = rw (read-refused burst room (rw e h), e)

  -- what the rest is read as, joined with the head
  module _ (link wrong : ℕ) (head : read_head burst ≡ found_head link wrong (wrong_in_training burst)) (h : Headed burst link wrong) where
    is-joined : {block : Outcome Block} → read_block link (block_part burst) room ≡ block → read_slot burst room ≡ joined (found_head link wrong (wrong_in_training burst)) block
    is-joined e = read-joined burst room (rw head) ∙ rw (head, e)

    rest_goes : b.Reading link (block_part burst) room → Reading burst room
    unfolding both
    rest_goes (b.unoffered f e) = absurd (true≢false (sym (slot-offered link h.slot) ∙ f))
    rest_goes (b.no_length o s e) = no_length link wrong h s (is-joined e)
    rest_goes (b.too_short o s r e) = too_short link wrong h s r (is-joined e)
    rest_goes (b.no_bits o s r a e) = rest-no-bits link wrong h (record { size = s; fits = r }) a (is-joined e)
    rest_goes (b.none_near o s r a f e) = none_near link wrong h (record { size = s; fits = r }) a f (is-joined e)
    rest_goes (b.reads o s r a u n e) = reads link wrong h (record { size = s; fits = r }) a u n (is-joined e)

  -- what the word of a head with its training near is read as
  module _ (t : Trained burst) where
    as_read : {word : Word} → read_word (word_part burst) ≡ word → read_head burst ≡ named_head word (wrong_in_training burst)
    as_read e = head-word burst t.long t.bits e refl t.within

    slot-goes : (link wrong : ℕ) → Named burst link wrong → (slot : Bool) → is_slot_link link ≡ slot → Reading burst room
    slot-goes link wrong n true s =
        let head = as_read n.read ∙ word-slot (found link wrong) _ refl s in
        rest_goes link wrong head (record { named = n; slot = s }) (b.reading-goes link (block_part burst) room)
    slot-goes link wrong n false s =
        no_slot link wrong n s (head-refuses not_offered (λ z. omega (arith, z)) (as_read n.read ∙ word-no-slot (found link wrong) _ refl s))

    word-goes : w.Reading (word_part burst) → Reading burst room
    word-goes (w.no_length l e) = absurd (l (word-long burst t.long))
    word-goes (w.no_bits l a e) = absurd (true≢false (sym (word_bits_lem burst t.bits) ∙ a))
    word-goes (w.none_near l a f e) = no_word_lem t f (head-refuses no_word (λ z. omega (arith, z)) (as_read e ∙ word-refused (refusedWord no_word) _ (λ z. omega (arith, z))))
    word-goes (w.reads l a link wrong n e) = slot-goes link wrong (record { trained = t; near = n; read = e }) (is_slot_link link) refl

  pub reading-goes : Reading burst room
  reading-goes = decided (ltb (length burst) head_length) (all_bits (head_part burst)) (leb (wrong_in_training burst) 8) refl refl refl
    where
      decided : (short all near : Bool) → ltb (length burst) head_length ≡ short → all_bits (head_part burst) ≡ all → leb (wrong_in_training burst) 8 ≡ near → Reading burst room
      decided true all near s a t =
          let h = ltb-true (length burst) head_length s in
          too_few h (head-refuses wrong_length (λ z. omega (arith, z)) (head-short burst h))
      decided false false near s a t =
          let l = ltb-false (length burst) head_length s in
          no_bits l a (head-refuses no_bit (λ z. omega (arith, z)) (head-no_bit burst l a))
      decided false true false s a t =
          let l = ltb-false (length burst) head_length s in
          let far = leb-false (wrong_in_training burst) 8 t in
          no_training_lem l a far (head-refuses no_training (λ z. omega (arith, z)) (head-no_training burst l a far))
      decided false true true s a t =
          let l = ltb-false (length burst) head_length s in
          word-goes (record { long = l; bits = a; within = leb-true (wrong_in_training burst) 8 t }) (w.reading-goes (word_part burst))

-- a burst that is read is near, as demand 3 says it
pub near_burst : (came : List Bool) (link wrong : ℕ) → Headed (map byte came) link wrong → {room : ℕ} → Sized (map byte came) room link
    → (u : List Bool) → NearBlock (row_of link) (map is_one (block_part (map byte came))) u → Near came link wrong u
near_burst came link wrong h s u n =
    let t = h.named.trained in
    record {
      head = record {
        slot = h.slot;
        long = omega (arith, t.long, length-map came byte);
        trained = omega (arith, ap (differences training) (part_back came training_length 0), t.within);
        word = rw (part_back came 32 training_length) at h.named.near;
      };
      size = omega (arith, t.long, s.size, length-map came byte, length-drop head_length (map byte came));
      block = rw (rest_back came) at n;
    }
