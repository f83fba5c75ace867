-- Demand 3 of blocks, for every coding with its X at every clock: rows with a right check and their images are three apart, and only one
-- such row's image is within one place of what came, the candidate.
-- Assumes nothing.
use mathlib.Core.Path.{◌≡◌, sym, ◌∙◌}
use mathlib.Core.Bool.{Bool}
use mathlib.Core.List.{List}
use mathlib.Core.Option.{some}
use Prim.Native.Nat.{◌≤◌}
use native.Mathlib.Nat.{le_trans}
use native.Mathlib.Omega.{arith}
use lib.ListN.{length}
use Rattle.bits.specs.Row.{differences}
use Rattle.bits.proofs.Differences.{differences_comm, differences_triangle}
use Rattle.distance.specs.Working.Candidate.{candidate}
use Rattle.distance.specs.Working.Coding.{Coding, Sound, image, received}
use Rattle.distance.specs.Working.Near.{Right, Near}
use Rattle.distance.proofs.Apart.{three_apart}
use Rattle.distance.proofs.Candidate.{candidate-found}
use Rattle.distance.proofs.Weave.{length-received, differences-came, differences-image}

module _ (c : Coding) (sound : Sound c) where
  -- ---- three apart
  same_row : (a b : List Bool) → Right c a → Right c b → differences a b ≤ 2 → a ≡ b
  same_row a b v w h = three_apart a b (v.long ∙ sym w.long) (omega (arith, v.long, sound.short)) v.closes w.closes h

  -- two different rows differ in at least three places
  pub rows_apart : (a b : List Bool) → Right c a → Right c b → (a ≡ b → ⊥) → 3 ≤ differences a b
  rows_apart a b v w ne = let far : differences a b ≤ 2 → ⊥ = λ h. ne (same_row a b v w h) in omega (arith, far)

  -- and so do their images
  pub images_apart : (a b : List Bool) → Right c a → Right c b → (a ≡ b → ⊥) → 3 ≤ differences (image c a) (image c b)
  images_apart a b v w ne = le_trans (rows_apart a b v w ne) (differences-image c sound a b v.long w.long)

  -- at most one row's image is within one place of what came
  pub only_one : (came a b : List Bool) → Near c came a → Near c came b → a ≡ b
  only_one came a b n m =
      same_row a b n.right m.right
      (omega (
        arith,
        differences-image c sound a b n.right.long m.right.long,
        differences_triangle (image c a) came (image c b),
        differences_comm came (image c b),
        n.within,
        m.within,
      ))

  -- ---- and it is had from the received bits
  module _ (came : List Bool) (size : length came ≡ c.size) (a : List Bool) (n : Near c came a) where
    pub near_received : (length a ≡ length (received c came)) × (differences a (received c came) ≤ 1)
    near_received = (n.right.long ∙ sym (length-received c sound came size), le_trans (differences-came c sound a came n.right.long) n.within)

    pub near_candidate : candidate (received c came) ≡ some a
    near_candidate =
        candidate-found (received c came) a (omega (arith, length-received c sound came size, sound.short)) near_received.0 n.right.closes near_received.1
