-- Bytes to bits and back.
-- Assumes nothing.
use mathlib.Core.Path.{◌≡◌, refl, sym, ap, ap₂, ◌∙◌}
use mathlib.Core.Bool.{Bool, true, false}
use mathlib.Core.List.{List, [], ◌∷◌, ◌++◌, append_assoc}
use Prim.Native.Nat.{ℕ, zero, suc, ◌+◌, ◌-◌, ◌*◌, ◌≤◌, ◌<◌}
use native.Mathlib.Nat.{pow-le-pow_right, zero-lt-suc}
use native.Mathlib.Omega.{arith}
use borrow.Author.Tests.{ltb-true, lt-ltb}
use lib.Dec.{ltb}
use lib.ListN.{length, take, drop, replicate, length-append, length-replicate, length-take, length-drop, take-append-drop, replicate-append-replicate}
use lib.Seq.{take_at, drop_at, take-append-le, take-append-add, drop-append-add, take-take, take-nil, drop-nil, length-take-le}
use Rattle.lists.specs.Every.{every}
use Rattle.lists.proofs.Every.{every_append, every-replicate}
use Rattle.lists.proofs.Parts.{drop-take}
use Rattle.lists.proofs.Tests.{both_true}
use Rattle.bits.specs.Row.{high_first, number}
use Rattle.bits.specs.Datagram.{all_bytes, bits_of, filled, as_bytes}
use Rattle.bits.proofs.Row.{length-high_first, number-high_first, high_first-number, number_lt}
use Rattle.bits.proofs.Filled.{filled_fits, take-filled}

-- ---- bytes to bits
pub length-bits_of : (datagram : List ℕ) → length (bits_of datagram) ≡ length datagram * 8
unfolding bits_of
length-bits_of [] = refl
length-bits_of (b ∷ datagram) = omega (arith, length-append (high_first 8 b) (bits_of datagram), length-high_first 8 b, length-bits_of datagram)

pub bits_of-append : (a b : List ℕ) → bits_of (a ++ b) ≡ bits_of a ++ bits_of b
unfolding bits_of
bits_of-append [] b = refl
bits_of-append (x ∷ a) b = ap (λ (l : List Bool). high_first 8 x ++ l) (bits_of-append a b) ∙ sym (append_assoc (high_first 8 x) (bits_of a) (bits_of b))

-- up to a byte, and from there on
pub take-bits_of : (j : ℕ) (datagram : List ℕ) → take (j * 8) (bits_of datagram) ≡ bits_of (take j datagram)
unfolding bits_of
take-bits_of zero datagram = refl
take-bits_of (suc j) [] = take-nil (suc j * 8)
take-bits_of (suc j) (b ∷ datagram) =
    let place : suc j * 8 ≡ length (high_first 8 b) + j * 8 = omega (arith, length-high_first 8 b) in
    rw place (take-append-add (high_first 8 b) (bits_of datagram) (j * 8) ∙ ap (λ (l : List Bool). high_first 8 b ++ l) (take-bits_of j datagram))

pub drop-bits_of : (j : ℕ) (datagram : List ℕ) → drop (j * 8) (bits_of datagram) ≡ bits_of (drop j datagram)
unfolding bits_of
drop-bits_of zero datagram = refl
drop-bits_of (suc j) [] = drop-nil (suc j * 8)
drop-bits_of (suc j) (b ∷ datagram) =
    let place : suc j * 8 ≡ length (high_first 8 b) + j * 8 = omega (arith, length-high_first 8 b) in
    rw place (drop-append-add (high_first 8 b) (bits_of datagram) (j * 8) ∙ drop-bits_of j datagram)

zero-bytes : (n : ℕ) → bits_of (replicate n 0) ≡ replicate (n * 8) false
unfolding bits_of high_first
zero-bytes zero = refl
zero-bytes (suc n) =
    let more : 8 + n * 8 ≡ suc n * 8 = omega arith in
    ap (λ (l : List Bool). replicate 8 false ++ l) (zero-bytes n)
    ∙ replicate-append-replicate 8 (n * 8) false
    ∙ ap (λ (k : ℕ). replicate k false) more

-- the bits of a short datagram, filled, are those of the datagram filled with zero bytes
filled-bits_of : (m : ℕ) (datagram : List ℕ) → length datagram ≤ m → filled (m * 8) (bits_of datagram) ≡ bits_of (datagram ++ replicate (m - length datagram) 0)
filled-bits_of m datagram h =
    let left : m * 8 - length (bits_of datagram) ≡ (m - length datagram) * 8 = omega (arith, length-bits_of datagram) in
    filled_fits (m * 8) (bits_of datagram) (omega (arith, length-bits_of datagram))
    ∙ ap (λ (k : ℕ). bits_of datagram ++ replicate k false) left
    ∙ ap (λ (l : List Bool). bits_of datagram ++ l) (sym (zero-bytes (m - length datagram)))
    ∙ sym (bits_of-append datagram (replicate (m - length datagram) 0))

-- ---- bits to bytes
pub length-as_bytes : (m : ℕ) (row : List Bool) → length (as_bytes m row) ≡ m
unfolding as_bytes
length-as_bytes zero row = refl
length-as_bytes (suc m) row = ap suc (length-as_bytes m (drop 8 row))

-- only the first m * 8 bits count
pub as_bytes-take : (m : ℕ) (row : List Bool) → as_bytes m (take (m * 8) row) ≡ as_bytes m row
unfolding as_bytes
as_bytes-take zero row = refl
as_bytes-take (suc m) row =
    let n = suc m * 8 in
    let left : n - 8 ≡ m * 8 = omega arith in
    ap₂ ◌∷◌ (ap number (take-take 8 n row (omega arith))) (ap (as_bytes m) (rw left at (drop-take 8 n row)) ∙ as_bytes-take m (drop 8 row))

pub as_bytes-append : (m : ℕ) (row rest : List Bool) → m * 8 ≤ length row → as_bytes m (row ++ rest) ≡ as_bytes m row
as_bytes-append m row rest h = sym (as_bytes-take m (row ++ rest)) ∙ ap (as_bytes m) (take-append-le (m * 8) row rest h) ∙ as_bytes-take m row

as_bytes-filled : (m n : ℕ) (row : List Bool) → m * 8 ≤ n → as_bytes m (filled n row) ≡ as_bytes m (filled (m * 8) row)
as_bytes-filled m n row h = sym (as_bytes-take m (filled n row)) ∙ ap (as_bytes m) (take-filled (m * 8) n row h)

-- what they make are bytes
pub byte_small : (row : List Bool) → length row ≤ 8 → number row < 256
byte_small row h = omega (arith, number_lt row, pow-le-pow_right {n = 2} (zero-lt-suc 1) {i = length row} {j = 8} h)

pub as_bytes_small : (m : ℕ) (row : List Bool) → all_bytes (as_bytes m row) ≡ true
unfolding as_bytes every
as_bytes_small zero row = refl
as_bytes_small (suc m) row = rw (lt-ltb (number (take 8 row)) 256 (byte_small (take 8 row) (simp length-take (omega arith)))) (as_bytes_small m (drop 8 row))

-- ---- there and back
pub as_bytes-bits_of : (datagram : List ℕ) → all_bytes datagram ≡ true → as_bytes (length datagram) (bits_of datagram) ≡ datagram
unfolding bits_of as_bytes every
as_bytes-bits_of [] e = refl
as_bytes-bits_of (b ∷ datagram) e =
    let p = both_true (ltb b 256) (all_bytes datagram) e in
    let first = take_at (high_first 8 b) (bits_of datagram) 8 (length-high_first 8 b) in
    let rest = drop_at (high_first 8 b) (bits_of datagram) 8 (length-high_first 8 b) in
    ap₂ ◌∷◌ (ap number first ∙ number-high_first 8 b (ltb-true b 256 p.0)) (ap (as_bytes (length datagram)) rest ∙ as_bytes-bits_of datagram p.1)

-- eight bits are those of the byte that they make
pub byte-bits : (row : List Bool) → 8 ≤ length row → high_first 8 (number (take 8 row)) ≡ take 8 row
byte-bits row h = rw (length-take-le 8 row h) at (high_first-number (take 8 row))

-- bits that are whole bytes are those of the bytes that they make
pub bits_of-as_bytes : (m : ℕ) (row : List Bool) → length row ≡ m * 8 → bits_of (as_bytes m row) ≡ row
unfolding bits_of as_bytes
bits_of-as_bytes zero [] e = refl
bits_of-as_bytes zero (b ∷ row) e = absurd (omega arith)
bits_of-as_bytes (suc m) row e =
    ap₂ ◌++◌ (byte-bits row (omega arith)) (bits_of-as_bytes m (drop 8 row) (simp length-drop (omega arith))) ∙ take-append-drop 8 row

-- m bytes of the bits of a datagram, of which n were kept, are the datagram filled with zero bytes
pub datagram-back : (m n : ℕ) (datagram : List ℕ) → all_bytes datagram ≡ true → length datagram ≤ m → m * 8 ≤ n
    → as_bytes m (filled n (bits_of datagram)) ≡ datagram ++ replicate (m - length datagram) 0
datagram-back m n datagram e h l =
    let whole = datagram ++ replicate (m - length datagram) 0 in
    let long : length whole ≡ m = simp (length-append, length-replicate) (omega arith) in
    as_bytes-filled m n (bits_of datagram) l
    ∙ ap (as_bytes m) (filled-bits_of m datagram h)
    ∙ rw long at (as_bytes-bits_of whole (every_append _ datagram (replicate (m - length datagram) 0) e (every-replicate _ (m - length datagram) 0 refl)))
