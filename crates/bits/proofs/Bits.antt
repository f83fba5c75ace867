-- The two maps between bytes and bits undo each other.
-- Assumes nothing.
use mathlib.Core.Path.{◌≡◌, refl, ap, ap₂, ◌∙◌}
use mathlib.Core.Bool.{Bool, true, false}
use mathlib.Core.List.{List, [], ◌∷◌, map}
use Prim.Native.Nat.{ℕ, zero, suc, ◌≤◌, ◌<◌}
use native.Mathlib.Omega.{arith}
use lib.Dec.{leb, leb→le}
use lib.ListN.{get_or, get_or-map}
use borrow.Author.Tests.{leb-true}
use Rattle.lists.specs.Every.{every}
use Rattle.lists.proofs.Every.{every-place}
use Rattle.lists.proofs.Tests.{both_true}
use Rattle.bits.specs.Bits.{is_one, byte, all_bits}

pub byte-lt : (b : Bool) → byte b < 2
byte-lt true = omega arith
byte-lt false = omega arith

pub is_one-byte : (b : Bool) → is_one (byte b) ≡ b
is_one-byte true = refl
is_one-byte false = refl

pub byte-is_one : (x : ℕ) → x ≤ 1 → byte (is_one x) ≡ x
byte-is_one zero h = refl
byte-is_one (suc zero) h = refl
byte-is_one (suc (suc x)) h = absurd (omega arith)

-- bits written as bytes and read again
pub bits-bytes : (row : List Bool) → map is_one (map byte row) ≡ row
bits-bytes [] = refl
bits-bytes (b ∷ row) = ap₂ ◌∷◌ (is_one-byte b) (bits-bytes row)

-- bits written as bytes are bits
pub all_bits-map : (row : List Bool) → all_bits (map byte row) ≡ true
unfolding every
all_bits-map [] = refl
all_bits-map (true ∷ row) = all_bits-map row
all_bits-map (false ∷ row) = all_bits-map row

-- bytes that are all bits, read and written again
pub bytes_bits : (bytes : List ℕ) → all_bits bytes ≡ true → map byte (map is_one bytes) ≡ bytes
unfolding every
bytes_bits [] e = refl
bytes_bits (x ∷ bytes) e =
    let p = both_true (leb x 1) (all_bits bytes) e in
    ap₂ ◌∷◌ (byte-is_one x (leb-true x 1 p.0)) (bytes_bits bytes p.1)

-- a byte among bytes that are all bits is 0 or 1
pub bit_low : (bytes : List ℕ) → all_bits bytes ≡ true → (i : ℕ) → get_or bytes i 0 ≤ 1
bit_low bytes e i = leb→le (get_or bytes i 0) 1 (every-place (λ x. leb x 1) 0 bytes (rw e tt) tt i)

pub byte_at : (bytes : List ℕ) → all_bits bytes ≡ true → (i : ℕ) → byte (get_or (map is_one bytes) i false) ≡ get_or bytes i 0
byte_at bytes e i = ap byte (get_or-map is_one bytes i 0) ∙ byte-is_one (get_or bytes i 0) (bit_low bytes e i)
