-- What the test of a row says of its sizes and of its interleaver.
-- Assumes nothing.
use mathlib.Core.Path.{◌≡◌, sym, ap, ◌∙◌}
use Prim.Native.Nat.{ℕ, ◌+◌, ◌*◌, ◌/◌, ◌%◌, ◌≤◌, ◌<◌}
use native.Mathlib.Nat.{mul_assoc}
use native.Mathlib.Omega.{arith}
use lib.Dec.{T, eqb→eq, ltb→lt, leb→le}
use lib.ListN.{length, get_or, take, length-take}
use lib.Seq.{get_or-take}
use Rattle.lists.proofs.Every.{every-at, together_at}
use Rattle.links.specs.declared.Row.{Row}
use Rattle.links.specs.Sizes.{bytes_held, image_length}
use Rattle.links.specs.Working.Good.{longest_block, longest_image, inverse, has_inverse, good_sizes, good_primes, good_row}

pub record Sizes (row : Row) : Type 0 where
  pub product : row.k1 * row.k2 ≡ row.k
  pub even : 2 * (row.k1 / 2) ≡ row.k1
  pub half : 0 < row.k1 / 2
  pub width : 0 < row.k2
  pub check : 32 ≤ row.k
  pub block : row.k ≤ longest_block
  pub image : image_length row ≤ longest_image
  pub bytes : bytes_held row ≤ 698
  -- the bytes and the check have room in the block
  pub whole : bytes_held row * 8 + 32 ≤ row.k

pub sizes : (row : Row) → T (good_row row) → Sizes row
unfolding good_row good_sizes
sizes row t =
    let at = together_at _ (together_at _ t 0) in
    let some = ltb→lt 0 row.k1 (at 2) in
    let even = eqb→eq (row.k1 % 2) 0 (at 1) in
    let check = leb→le 32 row.k (at 4) in
    let block = leb→le row.k longest_block (at 5) in
    record {
      product = eqb→eq (row.k1 * row.k2) row.k (at 0);
      even = omega arith;
      half = omega arith;
      width = ltb→lt 0 row.k2 (at 3);
      check = check;
      block = block;
      image = leb→le (image_length row) longest_image (at 6);
      bytes = omega arith;
      whole = omega arith;
    }

-- k from the interleaver's numbers
pub block-is : (row : Row) → T (good_row row) → row.k ≡ 2 * (row.k1 / 2 * row.k2)
block-is row t =
    sym (sizes row t).product ∙ ap (λ (x : ℕ). x * row.k2) (sym (sizes row t).even) ∙ mul_assoc 2 (row.k1 / 2) row.k2

-- a prime of the interleaver, counted from 0
abbrev pub prime : Row → ℕ → ℕ
prime row q = get_or row.primes q 0

pub record Inverses (row : Row) : Type 0 where
  pub of_19 : 19 * inverse 19 (row.k1 / 2) % (row.k1 / 2) ≡ 1 % (row.k1 / 2)
  -- a prime is used where q is below k1 / 2
  pub of_prime : (q : ℕ) → q < 8 → q < row.k1 / 2 → prime row q * inverse (prime row q) row.k2 % row.k2 ≡ 1 % row.k2

pub inverses : (row : Row) → T (good_row row) → Inverses row
unfolding good_row good_primes
inverses row t =
    let at = together_at _ (together_at _ t 1) in
    let used = take (row.k1 / 2) row.primes in
    let long = eqb→eq (length row.primes) 8 (at 1) in
    record {
      of_19 = eqb→eq _ _ (at 0);
      of_prime = λ q h below.
          eqb→eq _ _ (rw (get_or-take (row.k1 / 2) row.primes q 0 below) at (every-at (has_inverse row.k2) 0 used (at 2) q (simp length-take (omega arith))));
    }
