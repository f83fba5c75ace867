-- 24 clocks fed at once. An input and its a differ by the a of two and of three clocks before. To add those sixteen times over is to
-- add what lies 32 and 48 clocks before, which is nothing; so adding them fifteen times over to the inputs gives a.
-- Assumes nothing.
use mathlib.Core.Path.{◌≡◌, refl, sym, ap, ap₂, ◌∙◌}
use mathlib.Core.Bool.{Bool}
use mathlib.Core.List.{List, [], ◌∷◌}
use Prim.Native.Nat.{ℕ, ◌+◌, ◌*◌, ◌/◌, ◌%◌, ◌^◌, ◌<◌}
use native.Mathlib.Nat.{mod-eq_of_lt, lt_of_le_of_lt}
use native.Mathlib.Omega.{arith}
use lib.Bits.{bit_and, bit_or, bit_xor, xor_shr, xor_mod, xor_shifted, or_shifted}
use lib.Dec.{eqb, eqb→eq}
use lib.ListN.{length}
use lib.Pow.{shr-shr, shr_le}
use Rattle.lists.proofs.Line.{line}
use Rattle.bits.specs.Row.{number}
use Rattle.bits.specs.Xor.{◌⊕◌}
use Rattle.bits.proofs.Row.{number_lt}
use Rattle.bits.proofs.Xor.{⊕_assoc, ⊕_comm, ⊕-left_comm, ⊕_self, zero-⊕, ⊕-zero, ⊕-lt, ⊕_middle}
use Rattle.turbo.specs.Encoder.{Register, fed, next}
use Rattle.turbo.specs.Outputs.{outputs}
use Rattle.encoder.specs.Working.Number.{number_of}
use Rattle.encoder.specs.Working.Fed.{fed_on}
use Rattle.encoder.proofs.Taps.{input, taps_x, shifts_x, taps, on_split, length-outputs, number_small}

⊕_shr : (k a b : ℕ) → (a ⊕ b) / 2 ^ k ≡ a / 2 ^ k ⊕ b / 2 ^ k
unfolding ◌⊕◌
⊕_shr k a b = xor_shr a b k

⊕_undo : (a b : ℕ) → a ⊕ (a ⊕ b) ≡ b
⊕_undo a b = sym (⊕_assoc a a b) ∙ ap (λ (x : ℕ). x ⊕ b) (⊕_self a) ∙ zero-⊕ b

-- ---- a number and the same j and k places on
abbrev pub added : ℕ → ℕ → ℕ → ℕ
added j k n = n ⊕ n / 2 ^ j ⊕ n / 2 ^ k

sum_added : (j k a b : ℕ) → added j k (a ⊕ b) ≡ added j k a ⊕ added j k b
sum_added j k a b =
    ap₂ (λ (x y : ℕ). a ⊕ b ⊕ x ⊕ y) (⊕_shr j a b) (⊕_shr k a b)
    ∙ ap (λ (x : ℕ). x ⊕ (a / 2 ^ k ⊕ b / 2 ^ k)) (⊕_middle a b (a / 2 ^ j) (b / 2 ^ j))
    ∙ ⊕_middle (a ⊕ a / 2 ^ j) (b ⊕ b / 2 ^ j) (a / 2 ^ k) (b / 2 ^ k)

cancel : (n a b aa ab bb : ℕ) → n ⊕ a ⊕ b ⊕ (a ⊕ aa ⊕ ab) ⊕ (b ⊕ ab ⊕ bb) ≡ n ⊕ aa ⊕ bb
cancel n a b aa ab bb = simp (⊕_assoc, ⊕-left_comm, ⊕_undo)

-- twice is once twice as far
twice : (j k n : ℕ) → added j k (added j k n) ≡ added (j + j) (k + k) n
twice j k n =
    let shifted : (i : ℕ) → added j k n / 2 ^ i ≡ n / 2 ^ i ⊕ n / 2 ^ (j + i) ⊕ n / 2 ^ (k + i) = λ i.
    ⊕_shr i (n ⊕ n / 2 ^ j) (n / 2 ^ k) ∙ ap₂ ◌⊕◌ (⊕_shr i n (n / 2 ^ j) ∙ ap (λ (x : ℕ). n / 2 ^ i ⊕ x) (shr-shr n j i)) (shr-shr n k i) in
    let other : n / 2 ^ (k + j) ≡ n / 2 ^ (j + k) = ap (λ (i : ℕ). n / 2 ^ i) (omega arith) in
    ap₂ (λ (x y : ℕ). added j k n ⊕ x ⊕ y) (shifted j ∙ ap (λ (x : ℕ). n / 2 ^ j ⊕ n / 2 ^ (j + j) ⊕ x) other) (shifted k)
    ∙ cancel n (n / 2 ^ j) (n / 2 ^ k) (n / 2 ^ (j + j)) (n / 2 ^ (j + k)) (n / 2 ^ (k + k))

-- ---- numbers of 24 clocks
added_lt : (j k n : ℕ) → n < 2 ^ 24 → added j k n < 2 ^ 24
added_lt j k n h = ⊕-lt 24 _ _ (⊕-lt 24 n (n / 2 ^ j) h (lt_of_le_of_lt (shr_le n j) h)) (lt_of_le_of_lt (shr_le n k) h)

abbrev pub fifteen : ℕ → ℕ
fifteen n = let w = added 8 12 (added 4 6 (added 2 3 n)) in w ⊕ w / 2 ^ 16

back : (n : ℕ) → n < 2 ^ 24 → fifteen (added 2 3 n) ≡ n
back n h =
    let eight : added 8 12 (added 4 6 (added 2 3 (added 2 3 n))) ≡ added 16 24 n = ap (λ (x : ℕ). added 8 12 (added 4 6 x)) (twice 2 3 n) ∙ ap (added 8 12) (twice 4 6 n) ∙ twice 8 12 n in
    let w = added 16 24 n in
    let none : w / 2 ^ 24 ≡ 0 = omega (arith, added_lt 16 24 n h) in
    let far : n / 2 ^ 32 ≡ 0 = omega (arith, h) in
    let farther : n / 2 ^ 48 ≡ 0 = omega (arith, h) in
    ap (λ (x : ℕ). x ⊕ x / 2 ^ 16) eight
    ∙ sym (ap (λ (x : ℕ). w ⊕ w / 2 ^ 16 ⊕ x) none ∙ ⊕-zero (w ⊕ w / 2 ^ 16))
    ∙ twice 16 24 n
    ∙ ap₂ (λ (x y : ℕ). n ⊕ x ⊕ y) far farther
    ∙ ⊕-zero (n ⊕ 0)
    ∙ ⊕-zero n

-- ---- what the register brings to the first three of them
abbrev pub brought : ℕ → ℕ
brought n = bit_and (bit_xor (n * 4194304 % 2 ^ 32) (n * 2097152 % 2 ^ 32)) 16777215

brings : (n : ℕ) → n < 8 → added 2 3 (n * 2 ^ 24) % 2 ^ 24 ≡ brought n
unfolding ◌⊕◌
brings n h = eqb→eq _ _ (line 8 (λ n. eqb (added 2 3 (n * 2 ^ 24) % 2 ^ 24) (brought n)) tt n h)

module _ (n q : ℕ) (small : n < 8) (low : q < 2 ^ 24) where
  parts : added 2 3 (n * 2 ^ 24 + q) % 2 ^ 24 ≡ brought n ⊕ added 2 3 q
  unfolding ◌⊕◌
  parts =
      ap (λ (x : ℕ). added 2 3 x % 2 ^ 24) (sym (xor_shifted n 24 q low))
      ∙ ap (λ (x : ℕ). x % 2 ^ 24) (sum_added 2 3 (n * 2 ^ 24) q)
      ∙ xor_mod (added 2 3 (n * 2 ^ 24)) (added 2 3 q) 24
      ∙ ap₂ ◌⊕◌ (brings n small) (mod-eq_of_lt (added_lt 2 3 q low))

  -- so the inputs i and what the register brings make q
  made : (i : ℕ) → added 2 3 (n * 2 ^ 24 + q) % 2 ^ 24 ≡ i → fifteen (i ⊕ brought n) ≡ q
  made i e =
      let taken : i ⊕ brought n ≡ added 2 3 q = ap (λ (x : ℕ). x ⊕ brought n) (sym e ∙ parts) ∙ ⊕_comm (brought n ⊕ added 2 3 q) (brought n) ∙ ⊕_undo (brought n) (added 2 3 q) in
      ap fifteen taken ∙ back q low

-- ---- fed at once is fed clock by clock
outputs-input : (r : Register) (row : List Bool) → outputs input r row ≡ row
unfolding outputs
outputs-input r [] = refl
outputs-input r (x ∷ row) = ap {B = List Bool} (◌∷◌ x) (outputs-input (next r x) row)

pub fed-once : (r : Register) (row : List Bool) → length row ≡ 24 → {n : ℕ} → n ≡ number_of r → bit_or (n * 16777216 % 2 ^ 32) (fifteen (number row ⊕ brought n)) ≡ fed_on r row
unfolding fed_on ◌⊕◌
fed-once r row long {n} e =
    let q = number (outputs fed r row) in
    let wide : length (outputs fed r row) ≡ 24 = length-outputs fed r row ∙ long in
    let low : q < 2 ^ 24 = rw wide at (number_lt (outputs fed r row)) in
    let small : n < 8 = omega (arith, e, number_small r) in
    let split : n * 2 ^ 24 + q ≡ fed_on r row = ap (λ (x : ℕ). x * 2 ^ 24 + q) e ∙ sym (rw wide at (on_split (number_of r) (outputs fed r row))) in
    let inputs : added 2 3 (n * 2 ^ 24 + q) % 2 ^ 24 ≡ number row = ap (λ (k : ℕ). added 2 3 (n * 2 ^ 24 + q) % 2 ^ k) (sym long) ∙ taps input taps_x shifts_x (n * 2 ^ 24 + q) r row split ∙ ap number (outputs-input r row) in
    let fits : n * 16777216 % 2 ^ 32 ≡ n * 2 ^ 24 = omega (arith, small) in
    ap₂ bit_or fits (made n q small low (number row) inputs) ∙ or_shifted n 24 q low ∙ split
