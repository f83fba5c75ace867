-- What a part makes of a state: nothing where it is full, its front where it is too long, and else all of it.
-- Assumes nothing.
use mathlib.Core.Path.{◌≡◌, refl, sym}
use mathlib.Core.List.{List}
use Prim.Native.Nat.{ℕ, ◌+◌, ◌-◌, ◌≤◌, ◌<◌}
use native.Mathlib.Omega.{arith}
use lib.ListN.{length, take}
use lib.Seq.{take_all}
use Rattle.lists.specs.Over.{over}
use Rattle.lists.proofs.Over.{over-nil}
use Rattle.parts.specs.State.{longest, stop, state, taken}

same : {m n : ℕ} {a b : List ℕ} → m ≡ n → a ≡ b → state m a ≡ state n b
same e f = rw (e, f)

module _ (count : ℕ) (bits part : List ℕ) where
  pub full : longest < count → state stop bits ≡ taken (state count bits) part
  unfolding taken
  full h =
      let none : longest - count ≡ 0 = omega arith in
      same (omega arith) (rw none (sym (over-nil count bits)))

  pub cut : count ≤ longest → longest - count < length part → state stop (over count (take (longest - count) part) bits) ≡ taken (state count bits) part
  unfolding taken
  cut h l = same (omega arith) refl

  pub whole : count ≤ longest → length part ≤ longest - count → state (count + length part) (over count part bits) ≡ taken (state count bits) part
  unfolding taken
  whole h l = same (omega arith) (rw (take_all (longest - count) part l))
