-- The eight bits of a byte with others laid over them from one of them on, and the byte that they make.
-- Assumes nothing.
use mathlib.Core.Path.{◌≡◌, ◌∙◌}
use mathlib.Core.Bool.{Bool}
use mathlib.Core.List.{List, map}
use Prim.Native.Nat.{ℕ, ◌+◌, ◌-◌, ◌≤◌, ◌<◌}
use native.Mathlib.Nat.{le_of_eq}
use native.Mathlib.Omega.{arith}
use borrow.Rule.Slice.PartMut.{put_mid}
use lib.ListN.{length, take, drop, length-drop, length-map}
use lib.Seq.{length-take-le}
use Rattle.std.proofs.lemmas.Grind.{common_steps}
use Rattle.lists.specs.Over.{over}
use Rattle.lists.proofs.Over.{over-length}
use Rattle.bits.specs.Row.{high_first, number}
use Rattle.bits.proofs.Datagram.{byte_small}
use Rattle.bits.proofs.Row.{length-high_first, high_first-number}

module _ {A : Type 0} (held from : ℕ) (value : A → Bool) (cells : List A) (h : from + length cells ≤ 8) where
  abbrev own : List Bool
  own = high_first 8 held

  -- the bits that the cells hold, and where they go
  abbrev bits : List Bool
  bits = map value cells

  abbrev count : ℕ
  count = from + length cells - from

  abbrev part : List Bool
  part = take count (drop from own)

  -- as code lays them: the digits of their number, as many as the part takes
  abbrev laid : List Bool
  laid = high_first (length part) (number bits)

  laid_is : laid ≡ bits
  laid_is =
      let room : count ≤ length (drop from own) = simp (length-drop, length-high_first) (omega arith) in
      let long : length part ≡ length bits = length-take-le count (drop from own) room ∙ simp length-map (omega arith) in
      rw long (high_first-number bits)

  -- as code writes into a part
  abbrev written : List Bool
  written = put_mid from count own laid

  written_is : written ≡ over from bits own
  unfolding over
  written_is = rw laid_is (grind (arith, common_steps))

  eight : length (over from bits own) ≡ 8
  eight = over-length from bits own (rw (length-map, length-high_first) h) ∙ length-high_first 8 held

  pub written-small : number written < 256
  written-small = rw written_is (byte_small (over from bits own) (le_of_eq eight))

  pub written-bits : high_first 8 (number written) ≡ over from bits own
  written-bits = rw written_is (rw eight at (high_first-number (over from bits own)))
