-- A bit inverted where it stands.
-- Assumes nothing.
use mathlib.Core.Path.{◌≡◌, refl, ap}
use mathlib.Core.Bool.{Bool, false, not}
use mathlib.Core.List.{List, [], ◌∷◌}
use Prim.Native.Nat.{ℕ, zero, suc}
use lib.ListN.{get_or, set}
use Rattle.bits.specs.Row.{flip}

pub flip_stored : (row : List Bool) (place : ℕ) → set row place (not (get_or row place false)) ≡ flip place row
unfolding flip
flip_stored [] place = refl
flip_stored (b ∷ row) zero = refl
flip_stored (b ∷ row) (suc place) = ap {B = List Bool} (λ l. b ∷ l) (flip_stored row place)
