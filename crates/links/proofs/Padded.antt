-- Clocks in an array: those of a pattern and of a tail are found again.
-- Assumes nothing.
use mathlib.Core.Path.{◌≡◌, refl}
use mathlib.Core.List.{List, append-nil}
use Prim.Native.Nat.{ℕ, ◌-◌, ◌≤◌}
use native.Mathlib.Omega.{arith}
use lib.ListN.{length, take}
use lib.Seq.{take_at}
use Rattle.links.specs.Working.Padded.{padded}

pub take-padded : (n : ℕ) (clocks : List (List ℕ)) → take (length clocks) (padded n clocks) ≡ clocks
unfolding padded
take-padded n clocks = take_at clocks _ (length clocks) refl

-- an array that the clocks fill
pub padded-full : (n : ℕ) (clocks : List (List ℕ)) → n ≤ length clocks → padded n clocks ≡ clocks
unfolding padded
padded-full n clocks h = let none : n - length clocks ≡ 0 = omega arith in rw none (append-nil clocks)
