-- Demand 3 over a link's row: valid blocks and their images are three apart, and reading is exact.
-- Assumes nothing.
use mathlib.Core.Path.{◌≡◌, sym, ap, ◌∙◌}
use mathlib.Core.Logic.{◌↔◌}
use mathlib.Core.Bool.{Bool, true}
use mathlib.Core.List.{List}
use mathlib.Core.Option.{none, some, none-ne-some}
use Prim.Native.Nat.{◌≤◌}
use lib.Dec.{T, leb}
use lib.ListN.{length}
use borrow.Author.Tests.{leb-true, le-leb}
use Rattle.lists.proofs.Tests.{both_true}
use Rattle.bits.specs.Row.{differences}
use Rattle.distance.specs.Working.Candidate.{candidate}
use Rattle.distance.specs.Working.Near.{Right, Near as CodingNear}
use Rattle.distance.proofs.Exact as coding
use Rattle.links.specs.declared.Row.{Row}
use Rattle.links.specs.Working.Good.{good_row}
use Rattle.links.specs.Sizes.{image_length}
use Rattle.blocks.specs.Block.{image_of}
use Rattle.blocks.specs.Near.{valid, Valid, Near}
use Rattle.blocks.specs.Reading.{received, stands_for, read_by_trying}
use Rattle.blocks.specs.Working.Coding.{coding_of}
use Rattle.blocks.proofs.Received.{received_is}
use Rattle.blocks.proofs.Sound.{sound, image-is}
use Rattle.blocks.proofs.Trying.{tried_passes, tried_found}
use Rattle.blocks.proofs.Valid.{valid-length, valid-closes}

module _ (row : Row) (good : T (good_row row)) where
  -- ---- as the link's coding has it
  right : (u : List Bool) → Valid row u → Right (coding_of row) u
  unfolding coding_of
  right u v = record { long = valid-length row u v; closes = valid-closes row u v }

  to-coding : (came u : List Bool) → Near row came u → CodingNear (coding_of row) came u
  to-coding came u n = record { right = right u n.right; within = rw (image-is row good u (valid-length row u n.right)) n.within }

  -- two different valid blocks differ in at least three places, and so do their images
  pub blocks_apart : (u w : List Bool) → Valid row u → Valid row w → (u ≡ w → ⊥) → 3 ≤ differences u w
  blocks_apart u w v v' ne = coding.rows_apart (coding_of row) (sound row good) u w (right u v) (right w v') ne

  pub images_apart : (u w : List Bool) → Valid row u → Valid row w → (u ≡ w → ⊥) → 3 ≤ differences (image_of row u) (image_of row w)
  images_apart u w v v' ne =
      rw (sym (image-is row good u (valid-length row u v)), sym (image-is row good w (valid-length row w v')))
      (coding.images_apart (coding_of row) (sound row good) u w (right u v) (right w v') ne)

  -- only one valid block is that near
  pub only_one : (came u w : List Bool) → Near row came u → Near row came w → u ≡ w
  only_one came u w n m = coding.only_one (coding_of row) (sound row good) came u w (to-coding came u n) (to-coding came w m)

  -- ---- the test of a block says whether it is near
  stands_near : (came u : List Bool) → stands_for row came u ≡ true → Near row came u
  unfolding stands_for
  stands_near came u e =
      let t = both_true (valid row u) (leb (differences (image_of row u) came) 1) e in
      record { right = t.0; within = leb-true (differences (image_of row u) came) 1 t.1 }

  near_stands : (came u : List Bool) → Near row came u → stands_for row came u ≡ true
  unfolding stands_for
  near_stands came u n = simp (n.right, le-leb (differences (image_of row u) came) 1 n.within)

  module _ (came : List Bool) (size : length came ≡ image_length row) where
    near_received : (u : List Bool) → Near row came u → (length u ≡ length (received row came)) × (differences u (received row came) ≤ 1)
    unfolding coding_of
    near_received u n = rw (received_is row came size) (coding.near_received (coding_of row) (sound row good) came size u (to-coding came u n))

    pub near_candidate : (u : List Bool) → Near row came u → candidate (received row came) ≡ some u
    unfolding coding_of
    near_candidate u n = ap candidate (received_is row came size) ∙ coding.near_candidate (coding_of row) (sound row good) came size u (to-coding came u n)

    -- a block is answered exactly if it is valid with its image within one place of what came
    pub exact : (u : List Bool) → (read_by_trying row came ≡ some u) ↔ Near row came u
    unfolding read_by_trying
    exact u = (
      λ e. stands_near came u (tried_passes (stands_for row came) (received row came) u e),
      λ n. let w = near_received u n in
          tried_found (stands_for row came) (received row came) u (near_stands came u n)
          (λ w t. only_one came w u (stands_near came w t) n) w.0 w.1,
    )

    -- and nothing if there is no such block
    pub none_read : read_by_trying row came ≡ none → (u : List Bool) → Near row came u → ⊥
    none_read e u n = none-ne-some u (sym e ∙ (exact u).1 n)
