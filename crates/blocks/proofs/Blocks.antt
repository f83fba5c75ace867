-- The block of a datagram is valid, its image is as long as the link's are, and it holds the datagram, zero-filled; every valid block is the
-- block of a datagram, the one that it holds.
-- Assumes nothing.
use mathlib.Core.Path.{◌≡◌, refl, sym, ap, ap₂, ◌∙◌}
use mathlib.Core.Bool.{Bool, true, false, not}
use mathlib.Core.List.{List, ◌++◌, map}
use Prim.Native.Nat.{ℕ, ◌-◌, ◌*◌, ◌≤◌}
use native.Mathlib.Omega.{arith}
use lib.Dec.{T}
use lib.ListN.{length, take, drop, replicate, length-append, length-drop, length-map, take-append-drop}
use lib.Seq.{take_at, take-take, length-take-le}
use borrow.Author.Tests.{not-true}
use Rattle.lists.proofs.Every.{every-replicate, every_only}
use Rattle.bits.specs.Bits.{byte, all_zero}
use Rattle.bits.specs.Datagram.{bits_of, filled, as_bytes, all_bytes}
use Rattle.bits.proofs.Datagram.{length-bits_of, length-as_bytes, as_bytes-take, as_bytes-append, as_bytes_small, bits_of-as_bytes, datagram-back}
use Rattle.bits.proofs.Filled.{length-filled, filled_fits, drop-filled}
use Rattle.bits.proofs.Row.{length-high_first}
use Rattle.check32.specs.Check.{register, check_bits}
use Rattle.check32.proofs.Closing.{closed, check_only}
use Rattle.links.specs.declared.Row.{Row}
use Rattle.links.specs.Working.Good.{good_row}
use Rattle.links.specs.Sizes.{open_bits, bytes_held, image_length}
use Rattle.links.proofs.Facts.{sizes}
use Rattle.blocks.specs.Block.{opening, block_of, image_of, datagram_of, zero_filled}
use Rattle.blocks.specs.Near.{bits_over, Valid}
use Rattle.blocks.proofs.Sound.{length-image}
use Rattle.blocks.proofs.Valid.{valid-from, valid-length, valid-closes, valid-over}

pub length-datagram : (row : Row) (u : List Bool) → length (datagram_of row u) ≡ bytes_held row
unfolding datagram_of
length-datagram row u = length-as_bytes (bytes_held row) u

pub datagram-bytes : (row : Row) (u : List Bool) → all_bytes (datagram_of row u) ≡ true
unfolding datagram_of
datagram-bytes row u = as_bytes_small (bytes_held row) u

module _ (row : Row) (good : T (good_row row)) (datagram : List ℕ) where
  length-opening : length (opening row datagram) ≡ open_bits row
  length-opening = length-filled (open_bits row) (bits_of datagram)

  pub length-block : length (block_of row datagram) ≡ row.k
  unfolding block_of
  length-block =
      omega (
        arith,
        length-append (opening row datagram) (check_bits (opening row datagram)),
        length-opening,
        length-high_first 32 (register (opening row datagram)),
        (sizes row good).check,
      )

  pub long-image : length (map byte (image_of row (block_of row datagram))) ≡ image_length row
  long-image = length-map (image_of row (block_of row datagram)) byte ∙ length-image row good (block_of row datagram) length-block

  module _ (fits : length datagram ≤ bytes_held row) where
    -- the bits over are zero
    over_zero : all_zero (bits_over row (block_of row datagram)) ≡ true
    unfolding block_of all_zero
    over_zero =
        rw (
          take_at (opening row datagram) (check_bits (opening row datagram)) (open_bits row) length-opening,
          drop-filled (bytes_held row * 8) (open_bits row) (bits_of datagram) (omega (arith, length-bits_of datagram)),
        )
        (every-replicate not (open_bits row - bytes_held row * 8) false refl)

    -- the check closes it
    pub block-valid : Valid row (block_of row datagram)
    unfolding block_of
    block-valid = valid-from row (block_of row datagram) length-block (closed (opening row datagram)) over_zero

    -- and its datagram comes back, filled with zero bytes
    pub datagram-in-block : all_bytes datagram ≡ true → datagram_of row (block_of row datagram) ≡ zero_filled row datagram
    unfolding datagram_of block_of zero_filled
    datagram-in-block e =
        let room : bytes_held row * 8 ≤ open_bits row = omega (arith, (sizes row good).whole) in
        as_bytes-append (bytes_held row) (opening row datagram) (check_bits (opening row datagram)) (omega (arith, length-opening))
        ∙ datagram-back (bytes_held row) (open_bits row) datagram e fits room

-- ---- what a valid block is made of
module _ (row : Row) (good : T (good_row row)) (u : List Bool) (v : Valid row u) where
  -- before the check stand the bits of its datagram, and then zeros
  valid-opening : take (open_bits row) u ≡ opening row (datagram_of row u)
  unfolding datagram_of all_zero
  valid-opening =
      let long = valid-length row u v in
      let m = bytes_held row in
      let n = open_bits row in
      let room : m * 8 ≤ n = omega (arith, (sizes row good).whole) in
      let size : length (take n u) ≡ n = length-take-le n u (omega arith) in
      let bytes : length (take (m * 8) u) ≡ m * 8 = length-take-le (m * 8) u (omega arith) in
      let held : bits_of (as_bytes m u) ≡ take (m * 8) u = ap bits_of (sym (as_bytes-take m u)) ∙ bits_of-as_bytes m (take (m * 8) u) bytes in
      let left : length (drop (m * 8) (take n u)) ≡ n - length (take (m * 8) u) = length-drop (m * 8) (take n u) ∙ ap₂ ◌-◌ size (sym bytes) in
      let zeros = every_only not false not-true (drop (m * 8) (take n u)) (valid-over row u v) in
      sym (take-append-drop (m * 8) (take n u))
      ∙ ap₂ ◌++◌ (take-take (m * 8) n u room) (zeros ∙ ap (λ (k : ℕ). replicate k false) left)
      ∙ sym (filled_fits n (take (m * 8) u) (omega arith))
      ∙ ap (filled n) (sym held)

  pub valid-block : u ≡ block_of row (datagram_of row u)
  unfolding block_of
  valid-block =
      let before = take (open_bits row) u in
      let check = drop (open_bits row) u in
      let whole : before ++ check ≡ u = take-append-drop (open_bits row) u in
      let size : length check ≡ 32 = length-drop (open_bits row) u ∙ omega (arith, valid-length row u v, (sizes row good).check) in
      sym whole
      ∙ ap (λ (l : List Bool). before ++ l) (check_only before check size (ap register whole ∙ valid-closes row u v))
      ∙ ap (λ (l : List Bool). l ++ check_bits l) valid-opening
