-- The loop over the groups of a block, with no code in it: the places that pass stand in front of their room, and what is left at a group
-- is what stands at those places and what is left behind it.
-- Assumes nothing.
use mathlib.Core.Path.{◌≡◌, ap, ◌∙◌}
use mathlib.Core.Bool.{Bool, true}
use mathlib.Core.List.{List, ◌++◌, map}
use Prim.Native.Nat.{ℕ, ◌%◌, ◌≤◌}
use native.Mathlib.Omega.{arith}
use lib.Dec.{eqb}
use lib.ListN.{length, take, drop, length-append}
use lib.Seq.{take_at}
use borrow.Author.Tests.{eqb-true}
use Rattle.lists.specs.Working.Laying.{Lays}
use Rattle.lists.proofs.Over.{over_zero}
use Rattle.bits.specs.Bits.{byte}
use Rattle.turbo.specs.Encoder.{Register}
use Rattle.turbo.specs.Coded.{coded_from}
use Rattle.groups.specs.Working.Together.{sixes, passed_from}
use Rattle.groups.specs.Working.Group.{digit, places_from, Puts}
use Rattle.groups.proofs.Together.{map-passed_from, left-group}

-- what is laid from the start on is the front
module _ (p old : List ℕ) {new : List ℕ} {count : ℕ} (laid : Lays 0 p old new count) where
  pub front : take count new ≡ p
  front = rw (laid.1, over_zero p old) (take_at p (drop (length p) old) count (omega (arith, laid.0)))

  pub front-within : count ≤ length new
  front-within = omega (arith, laid.0, ap length laid.1, ap length (over_zero p old), length-append p (drop (length p) old))

-- at a group, where 24 clocks are whole periods
module _ (pattern tail : List (List ℕ)) (u v : List Bool) {us vs : List Bool} {a b a' b' : Register} {all places : List ℕ} (puts : Puts a b us vs all a' b') where
  pub group_more : places ≡ passed_from pattern 0 (places_from 0 24) → eqb (24 % length pattern) 0 ≡ true → 24 ≤ length u → length u ≡ length v → (us ≡ take 24 u) × (vs ≡ take 24 v)
      → map byte (coded_from pattern tail 0 a b u v) ≡ map (digit all) places ++ map byte (coded_from pattern tail 0 a' b' (drop 24 u) (drop 24 v))
  group_more listed whole h same group =
      let laid : map (digit all) places ≡ passed_from pattern 0 (map (map byte) (sixes a b us vs)) =
      ap (map (digit all)) listed ∙ map-passed_from (digit all) pattern 0 (places_from 0 24) ∙ ap (passed_from pattern 0) puts.stands in
      rw (laid, puts.first, puts.second, group.0, group.1) (left-group pattern tail 24 (eqb-true (24 % length pattern) 0 whole) a b u v h same)
