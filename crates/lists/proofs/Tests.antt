-- What tests say: two together, a choice by one, one that a call answered, and one of equal numbers.
-- Assumes nothing.
use mathlib.Core.Path.{◌≡◌, refl, sym, ◌∙◌}
use mathlib.Core.Logic.{◌⊎◌, inl, inr}
use mathlib.Core.Bool.{Bool, true, false, not, cond, ◌&&◌, false≢true}
use Prim.Native.Nat.{ℕ}
use lib.Dec.{T, eqb}
use borrow.Author.Tests.{not-true, not-false, eqb-true, eqb-false}

pub both_left : (a b : Bool) → T (a && b) → T a
both_left true b t = tt
both_left false b t = t

pub both_right : (a b : Bool) → T (a && b) → T b
both_right true b t = t
both_right false b t = absurd t

pub both_true : (a b : Bool) → (a && b) ≡ true → (a ≡ true) × (b ≡ true)
both_true true b e = (refl, e)
both_true false b e = absurd (false≢true e)

-- what a test picks is one or the other
pub either : {A : Type 0} (b : Bool) {x y z : A} → cond b x y ≡ z → ((b ≡ true) × (x ≡ z)) ⊎ ((b ≡ false) × (y ≡ z))
either true e = inl (refl, e)
either false e = inr (refl, e)

-- code that refuses where a call says no: what the call was asked holds where it goes on, and fails where it refuses
pub holds : {answer test : Bool} → answer ≡ test → not answer ≡ false → test ≡ true
holds {answer} e n = sym e ∙ not-false answer n

pub fails : {answer test : Bool} → answer ≡ test → not answer ≡ true → test ≡ false
fails {answer} e n = sym e ∙ not-true answer n

-- code that refuses where two numbers differ, the test taken first
pub equal : (a b : ℕ) → not (eqb a b) ≡ false → a ≡ b
equal a b n = eqb-true a b (not-false (eqb a b) n)

pub unequal : (a b : ℕ) → not (eqb a b) ≡ true → a ≡ b → ⊥
unequal a b n = eqb-false a b (not-true (eqb a b) n)
