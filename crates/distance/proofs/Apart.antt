-- Which flips of a row close, and that two rows that close differ in at least three places.
-- Assumes nothing.
use mathlib.Core.Path.{◌≡◌, refl, sym, ap, ◌∙◌}
use mathlib.Core.Logic.{◌↔◌}
use mathlib.Core.Bool.{Bool}
use mathlib.Core.List.{List}
use Prim.Native.Nat.{ℕ, zero, suc, ◌-◌, ◌<◌, ◌≤◌}
use native.Mathlib.Omega.{arith}
use lib.ListN.{length}
use Rattle.bits.specs.Row.{differences, flip}
use Rattle.bits.specs.Xor.{◌⊕◌}
use Rattle.bits.proofs.Differences.{differences-zero}
use Rattle.bits.proofs.Flip.{length-flip, flip-flip, nearer, OneOff, same, flipped, one_off}
use Rattle.bits.proofs.Xor.{⊕_self, ⊕_equal}
use Rattle.check32.specs.Check.{loaded, register}
use Rattle.check32.specs.Working.Closes.{Closes}
use Rattle.check32.specs.Working.Marks.{mark}
use Rattle.check32.proofs.Linear.{register_from-flip}
use Rattle.check32.proofs.Marks.{mark-not-zero, bits_after-found, bits_after-first}
use Rattle.distance.specs.Working.Coding.{longest}
use Rattle.distance.specs.Working.Candidate.{wrong_after, wrong_place}
use Rattle.distance.proofs.Marks.{marks_differ}

-- a flip closes where the mark of its place is the register
flip-closes : (row : List Bool) (i : ℕ) → i < length row → Closes (flip i row) ↔ (mark (length row - suc i) ≡ register row)
flip-closes row i h = (
  λ c. sym (⊕_equal (register row) (mark (length row - suc i)) (sym (register_from-flip loaded i row h) ∙ c)),
  λ e. register_from-flip loaded i row h ∙ ap (λ (r : ℕ). register row ⊕ r) e ∙ ⊕_self (register row),
)

-- no flip of a row that closes does
pub closes-alone : (row : List Bool) (i : ℕ) → i < length row → Closes row → Closes (flip i row) → ⊥
closes-alone row i h c d = mark-not-zero (length row - suc i) ((flip-closes row i h).0 d ∙ c)

-- the flip that closes is the one that the register tells of
pub flip_told : (row : List Bool) (i : ℕ) → length row ≤ longest → i < length row → Closes (flip i row) → (wrong_after row < length row) × (i ≡ wrong_place row)
flip_told row i l h c =
    let after = length row - suc i in
    let e : mark after ≡ register row = (flip-closes row i h).0 c in
    let first : wrong_after row ≤ after = bits_after-first (register row) (length row) after (omega arith) e in
    let equal : wrong_after row ≡ after = marks_differ (wrong_after row) after (omega arith) (omega arith) (bits_after-found (register row) (length row) (omega arith) ∙ sym e) in
    (omega arith, omega arith)

pub told_closes : (row : List Bool) → wrong_after row < length row → Closes (flip (wrong_place row) row)
told_closes row h =
    let back : length row - suc (wrong_place row) ≡ wrong_after row = omega arith in
    (flip-closes row (wrong_place row) (omega arith)).1 (ap mark back ∙ bits_after-found (register row) (length row) h)

-- at most one flip of a row closes
one-flip : (row : List Bool) (i j : ℕ) → length row ≤ longest → i < length row → j < length row → Closes (flip i row) → Closes (flip j row) → i ≡ j
one-flip row i j l h h' c c' = (flip_told row i l h c).1 ∙ sym (flip_told row j l h' c').1

-- rows that close and differ in at most two places are equal
pub three_apart : (a b : List Bool) → length a ≡ length b → length a ≤ longest → Closes a → Closes b → differences a b ≤ 2 → a ≡ b
three_apart a b l s ca cb h = by (differences a b) refl h
  where
    -- a is at most one place from a flip of b
    goes : (i : ℕ) → i < length b → OneOff a (flip i b) → a ≡ b
    goes i h (same e) = absurd (closes-alone b i h cb (ap register (sym e) ∙ ca))
    goes i h (flipped j h' e) =
        let between = flip i b in
        let size = length-flip i b in
        let back = flip-flip i b in
        let equal = one-flip between j i (omega arith) h' (omega arith) (ap register (sym e) ∙ ca) (ap register back ∙ cb) in
        e ∙ ap (λ (n : ℕ). flip n between) equal ∙ back

    by : (d : ℕ) → differences a b ≡ d → d ≤ 2 → a ≡ b
    by zero e h = differences-zero a b e
    by (suc d) e h =
        let w = nearer a b d l e in
        goes w.place w.within (one_off a (flip w.place b) (l ∙ sym (length-flip w.place b)) (omega (arith, w.left)))
