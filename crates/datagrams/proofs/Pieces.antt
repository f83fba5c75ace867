-- The calls that pack a row, one after another.
-- Assumes nothing.
use mathlib.Core.Path.{◌≡◌, sym, ap, ap₂, ◌∙◌}
use mathlib.Core.Bool.{Bool}
use mathlib.Core.List.{List, [], ◌∷◌, append-nil}
use Prim.Native.Nat.{ℕ, ◌+◌, ◌-◌, ◌*◌, ◌/◌, ◌%◌, ◌≤◌, ◌<◌}
use native.Mathlib.Omega.{arith}
use lib.ListN.{length, set, take, drop, take-append-drop, length-drop, length-set}
use lib.Seq.{length-take-le}
use Rattle.lists.specs.Over.{over}
use Rattle.lists.proofs.Over.{over-nil, over-set, over-over}
use Rattle.bits.specs.Row.{high_first, number}
use Rattle.bits.specs.Datagram.{bits_of, as_bytes}
use Rattle.datagrams.specs.Working.Packed.{packed_over}
use Rattle.bits.proofs.Datagram.{length-bits_of, byte-bits}
use Rattle.datagrams.proofs.Packed.{bits_of-over, packed_packed}

-- where no bits are laid, their place does not count
placed : (at place : ℕ) (bits : List Bool) (old : List ℕ) → (0 < length bits → at ≡ place) → packed_over at bits old ≡ packed_over place bits old
unfolding packed_over
placed at place [] old h = ap (as_bytes (length old)) (over-nil at (bits_of old) ∙ sym (over-nil place (bits_of old)))
placed at place (b ∷ bits) old h = ap (λ (n : ℕ). packed_over n (b ∷ bits) old) (h (omega arith))

-- two parts of a row, laid one behind the other
two_parts : (at i next : ℕ) (row : List Bool) (old : List ℕ) → i ≤ length row → at + i ≤ length old * 8 → (i < length row → next ≡ at + i)
    → packed_over next (drop i row) (packed_over at (take i row) old) ≡ packed_over at row old
two_parts at i next row old h room e =
    let long = length-take-le i row h in
    placed next (at + i) (drop i row) (packed_over at (take i row) old) (λ some. e (omega (arith, length-drop i row)))
    ∙ rw long at (packed_packed at (take i row) (drop i row) old (rw long room))
    ∙ ap (λ (l : List Bool). packed_over at l old) (take-append-drop i row)

-- the next whole byte, and what is behind it
pub byte_more : (at byte : ℕ) (rest : List Bool) (out : List ℕ) → 8 ≤ length rest → length rest ≤ length out * 8 - at * 8 → byte ≡ number (take 8 rest)
    → packed_over ((at + 1) * 8) (drop 8 rest) (set out at byte) ≡ packed_over (at * 8) rest out
unfolding packed_over bits_of
byte_more at byte rest out h room e =
    let eight = length-take-le 8 rest h in
    let place : (at + 1) * 8 ≡ at * 8 + length (take 8 rest) = omega arith in
    let bits : bits_of (set out at byte) ≡ over (at * 8) (take 8 rest) (bits_of out) =
    ap bits_of (over-set at byte out (omega arith))
    ∙ bits_of-over at (byte ∷ []) out
    ∙ ap (λ (l : List Bool). over (at * 8) l (bits_of out)) (append-nil (high_first 8 byte) ∙ ap (high_first 8) e ∙ byte-bits rest h) in
    ap₂ as_bytes (length-set out at byte)
    (rw (bits, place) (over-over (at * 8) (take 8 rest) (drop 8 rest) (bits_of out) (omega (arith, length-bits_of out)))
    ∙ ap (λ (l : List Bool). over (at * 8) l (bits_of out)) (take-append-drop 8 rest))

-- a row cut in two at i: up to the end of the byte in which it begins, and from the next byte on
pub head-and-rest : (at i : ℕ) (row : List Bool) (old mid new : List ℕ) → at + length row ≤ length old * 8 → i ≤ length row → (i < length row → i ≡ 8 - at % 8)
    → mid ≡ packed_over (at / 8 * 8 + at % 8) (take i row) old → new ≡ packed_over ((at / 8 + 1) * 8) (drop i row) mid → new ≡ packed_over at row old
head-and-rest at i row old mid new room h cut e f =
    let place : at / 8 * 8 + at % 8 ≡ at = omega arith in
    f ∙ rw (e, place) (two_parts at i ((at / 8 + 1) * 8) row old h (omega arith) (λ some. omega (arith, cut some)))
