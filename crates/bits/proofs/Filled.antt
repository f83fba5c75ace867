-- A row cut or filled with zero bits to a length.
-- Assumes nothing.
use mathlib.Core.Path.{◌≡◌, refl, sym, ap, ap₂, ◌∙◌}
use mathlib.Core.Bool.{Bool, false}
use mathlib.Core.List.{List, [], ◌∷◌, ◌++◌, append_assoc}
use Prim.Native.Nat.{ℕ, zero, suc, ◌+◌, ◌-◌, ◌≤◌}
use native.Mathlib.Nat.{zero-add, suc-add, sub-zero, zero-sub, suc-sub-suc, le_of_eq}
use native.Mathlib.Omega.{arith}
use lib.ListN.{length, take, drop, replicate, take-append-drop, drop_of_length-le, length-append, length-replicate, replicate-append-replicate}
use lib.Seq.{length-take-le, take_all, take-append-le, take-append-add, take-take}
use Rattle.lists.proofs.Parts.{take-replicate, drop-replicate}
use Rattle.bits.specs.Datagram.{filled}

pub length-filled : (n : ℕ) (row : List Bool) → length (filled n row) ≡ n
unfolding filled
length-filled n row = length-take-le n (row ++ replicate n false) (simp (length-append, length-replicate) (omega arith))

-- a row that is not too long is there whole, and zero bits behind it
pub filled_fits : (n : ℕ) (row : List Bool) → length row ≤ n → filled n row ≡ row ++ replicate (n - length row) false
unfolding filled
filled_fits n row h =
    let sum : n ≡ length row + (n - length row) = omega arith in
    ap (λ (m : ℕ). take m (row ++ replicate n false)) sum
    ∙ take-append-add row (replicate n false) (n - length row)
    ∙ ap (λ (l : List Bool). row ++ l) (take-replicate (n - length row) n false (omega arith))

pub take-filled : (m n : ℕ) (row : List Bool) → m ≤ n → take m (filled n row) ≡ filled m row
unfolding filled
take-filled m n row h =
    let sum : m + (n - m) ≡ n = omega arith in
    let zeros = sym (ap (λ (k : ℕ). replicate k false) sum) ∙ sym (replicate-append-replicate m (n - m) false) in
    take-take m n (row ++ replicate n false) h
    ∙ ap (λ (l : List Bool). take m (row ++ l)) zeros
    ∙ ap (take m) (sym (append_assoc row (replicate m false) (replicate (n - m) false)))
    ∙ take-append-le m (row ++ replicate m false) (replicate (n - m) false) (simp (length-append, length-replicate) (omega arith))

-- bit by bit
pub filled-nil : (n : ℕ) → filled n [] ≡ replicate n false
unfolding filled
filled-nil n = take_all n (replicate n false) (le_of_eq (length-replicate n false))

filled-cons : (n : ℕ) (b : Bool) (row : List Bool) → filled (suc n) (b ∷ row) ≡ b ∷ filled n row
unfolding filled
filled-cons n b row = ap {B = List Bool} (λ l. b ∷ l) (sym (take-take n (suc n) (row ++ replicate (suc n) false) (omega arith)) ∙ take-filled n (suc n) row (omega arith))

-- some bits and a row behind them
pub filled-append : (n : ℕ) (front row : List Bool) → filled (length front + n) (front ++ row) ≡ front ++ filled n row
filled-append n [] row = rw zero-add
filled-append n (b ∷ front) row = rw suc-add (filled-cons (length front + n) b (front ++ row) ∙ ap {B = List Bool} (λ l. b ∷ l) (filled-append n front row))

-- what is left from a place on is the rest of the row, filled
pub filled-rest : (i n : ℕ) (row : List Bool) → drop i (filled n row) ≡ filled (n - i) (drop i row)
filled-rest zero n row = rw sub-zero
filled-rest (suc i) zero row = rw zero-sub (unfold filled in refl)
filled-rest (suc i) (suc n) [] = ap (drop (suc i)) (filled-nil (suc n)) ∙ drop-replicate (suc i) (suc n) false ∙ sym (filled-nil (suc n - suc i))
filled-rest (suc i) (suc n) (b ∷ row) = ap (drop (suc i)) (filled-cons n b row) ∙ rw suc-sub-suc (filled-rest i n row)

-- some bits, and those behind them
pub filled_parts : (m n : ℕ) (row : List Bool) → filled (m + n) row ≡ filled m row ++ filled n (drop m row)
filled_parts m n row =
    let rest : m + n - m ≡ n = omega arith in
    sym (take-append-drop m (filled (m + n) row)) ∙ ap₂ ◌++◌ (take-filled m (m + n) row (omega arith)) (filled-rest m (m + n) row ∙ ap (λ k. filled k (drop m row)) rest)

-- the bits from the row's end on are zero
pub drop-filled : (i n : ℕ) (row : List Bool) → length row ≤ i → drop i (filled n row) ≡ replicate (n - i) false
drop-filled i n row h = filled-rest i n row ∙ ap (filled (n - i)) (drop_of_length-le row h) ∙ filled-nil (n - i)
