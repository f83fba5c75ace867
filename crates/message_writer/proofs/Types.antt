-- The types that can't be a message's are 0 and 81.
-- Assumes nothing.
use mathlib.Core.Path.{◌≡◌, refl, sym, ap, ◌∙◌}
use mathlib.Core.Logic.{◌⊎◌, inl, inr}
use mathlib.Core.Bool.{Bool, true, false, ◌||◌, true≢false}
use Prim.Native.Nat.{ℕ}
use lib.Dec.{eqb}
use borrow.Author.Tests.{eqb-true, ne_eqb}
use Rattle.message_writer.specs.Message.{is_no_type}

pub no_type_lem : (type : ℕ) → is_no_type type ≡ true → (type ≡ 0) ⊎ (type ≡ 81)
no_type_lem type e = decided (eqb type 0) refl e
  where
    decided : (zero : Bool) → eqb type 0 ≡ zero → (zero || eqb type 81) ≡ true → (type ≡ 0) ⊎ (type ≡ 81)
    decided true z e = inl (eqb-true type 0 z)
    decided false z e = inr (eqb-true type 81 e)

pub is-type : (type : ℕ) → (type ≡ 0 → ⊥) → (type ≡ 81 → ⊥) → is_no_type type ≡ false
is-type type z f = rw (ne_eqb type 0 z, ne_eqb type 81 f)

-- a type that can be a message's is none of the others
pub other-type : (type none : ℕ) → is_no_type type ≡ false → is_no_type none ≡ true → type ≡ none → ⊥
other-type type none t n e = true≢false (sym n ∙ sym (ap is_no_type e) ∙ t)
