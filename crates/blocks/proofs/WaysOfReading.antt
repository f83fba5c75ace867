-- The ways that reading a block goes, line by line as document 01 numbers them: 1, 2, 3, 4, 7, done.
-- Assumes nothing.
use mathlib.Core.Path.{◌≡◌, refl, ap, ◌∙◌}
use mathlib.Core.Bool.{Bool, true, false}
use mathlib.Core.List.{List, map}
use mathlib.Core.Option.{Option, none, some}
use Prim.Native.Nat.{ℕ, ◌<◌, ◌≤◌}
use lib.Dec.{eqb, ltb}
use lib.ListN.{length, length-map}
use borrow.Author.Tests.{eqb-true, eqb-false, ltb-true, ltb-false}
use Rattle.answers.specs.Numbers.{not_offered, wrong_length, no_room, no_bit, no_block}
use Rattle.bits.specs.Bits.{is_one, all_bits}
use Rattle.bits.specs.Row.{differences}
use Rattle.links.specs.Rows.{offered, row_of}
use Rattle.links.specs.Sizes.{bytes_held, image_length}
use Rattle.links.proofs.Good.{good}
use Rattle.blocks.specs.Block.{image_of, datagram_of}
use Rattle.blocks.specs.Near.{Near}
use Rattle.blocks.specs.Reading.{read_by_trying}
use Rattle.blocks.specs.Calls.{read_block, refused, reading, answered}
use Rattle.blocks.proofs.Calls.{read_unoffered, read_length, read_short, read-no_bit, read_tried}
use Rattle.blocks.proofs.Exact.{exact, none_read}

pub data Reading (link : ℕ) (bits : List ℕ) (room : ℕ) : Type 0 where
  unoffered : offered link ≡ false → read_block link bits room ≡ refused not_offered → Reading link bits room
  no_length : offered link ≡ true → (length bits ≡ image_length (row_of link) → ⊥) → read_block link bits room ≡ refused wrong_length → Reading link bits room
  too_short : offered link ≡ true → length bits ≡ image_length (row_of link) → room < bytes_held (row_of link) → read_block link bits room ≡ refused no_room → Reading link bits room
  no_bits : offered link ≡ true → length bits ≡ image_length (row_of link) → bytes_held (row_of link) ≤ room → all_bits bits ≡ false → read_block link bits room ≡ refused no_bit → Reading link bits room
  none_near : offered link ≡ true → length bits ≡ image_length (row_of link) → bytes_held (row_of link) ≤ room → all_bits bits ≡ true
      → ((u : List Bool) → Near (row_of link) (map is_one bits) u → ⊥) → read_block link bits room ≡ refused no_block → Reading link bits room
  reads : offered link ≡ true → length bits ≡ image_length (row_of link) → bytes_held (row_of link) ≤ room → all_bits bits ≡ true
      → (u : List Bool) → Near (row_of link) (map is_one bits) u
      → read_block link bits room ≡ reading (datagram_of (row_of link) u) (differences (image_of (row_of link) u) (map is_one bits)) → Reading link bits room

pub reading-goes : (link : ℕ) (bits : List ℕ) (room : ℕ) → Reading link bits room
unfolding answered
reading-goes link bits room = decided (offered link) (eqb (length bits) size) (ltb room held) (all_bits bits) refl refl refl refl
  where
    held : ℕ
    held = bytes_held (row_of link)

    size : ℕ
    size = image_length (row_of link)

    tried : (o : offered link ≡ true) → length bits ≡ image_length (row_of link) → bytes_held (row_of link) ≤ room → all_bits bits ≡ true
        → (found : Option (List Bool)) → read_by_trying (row_of link) (map is_one bits) ≡ found → Reading link bits room
    tried o s r a none e =
        none_near o s r a (none_read (row_of link) (good link o) (map is_one bits) (length-map bits is_one ∙ s) e)
        (read_tried link bits room o s r a ∙ ap (answered (row_of link) (map is_one bits)) e)
    tried o s r a (some u) e =
        reads o s r a u ((exact (row_of link) (good link o) (map is_one bits) (length-map bits is_one ∙ s) u).0 e)
        (read_tried link bits room o s r a ∙ ap (answered (row_of link) (map is_one bits)) e)

    decided : (o sized short all : Bool) → offered link ≡ o → eqb (length bits) size ≡ sized → ltb room held ≡ short → all_bits bits ≡ all → Reading link bits room
    decided false sized short all o s r a = unoffered o (read_unoffered link bits room o)
    decided true false short all o s r a =
        let h = eqb-false (length bits) size s in
        no_length o h (read_length link bits room o h)
    decided true true true all o s r a =
        let l = eqb-true (length bits) size s in
        let h = ltb-true room held r in
        too_short o l h (read_short link bits room o l h)
    decided true true false false o s r a =
        let l = eqb-true (length bits) size s in
        let h = ltb-false room held r in
        no_bits o l h a (read-no_bit link bits room o l h a)
    decided true true false true o s r a =
        tried o (eqb-true (length bits) size s) (ltb-false room held r) a (read_by_trying (row_of link) (map is_one bits)) refl
