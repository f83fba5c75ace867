-- What is answered for the candidate, by the tests that the reader makes in turn.
-- Assumes nothing.
use mathlib.Core.Path.{◌≡◌, refl, sym, ap, ◌∙◌}
use mathlib.Core.Bool.{Bool, true, false, true≢false}
use mathlib.Core.List.{List, map}
use mathlib.Core.Option.{Option, none, some, none-ne-some}
use Prim.Native.Nat.{ℕ, ◌≤◌}
use native.Mathlib.Omega.{arith}
use lib.Dec.{T, leb}
use lib.ListN.{length, length-map}
use borrow.Author.Tests.{leb-true, leb-false}
use Rattle.answers.specs.Numbers.{no_block}
use Rattle.bits.specs.Bits.{is_one, all_zero}
use Rattle.bits.specs.Row.{differences}
use Rattle.links.specs.declared.Row.{Row}
use Rattle.links.specs.Working.Good.{good_row}
use Rattle.links.specs.Sizes.{image_length}
use Rattle.distance.specs.Working.Candidate.{candidate}
use Rattle.distance.proofs.Candidate.{candidate-closes}
use Rattle.blocks.specs.Block.{image_of}
use Rattle.blocks.specs.Near.{bits_over, Near}
use Rattle.blocks.specs.Reading.{received, read_by_trying}
use Rattle.blocks.specs.Calls.{refused, answered}
use Rattle.blocks.proofs.Exact.{near_candidate, exact}
use Rattle.blocks.proofs.Valid.{valid-from, valid-over}
use Rattle.accepting.specs.Working.Within.{within}

module _ (row : Row) (good : T (good_row row)) (bits : List ℕ) (size : length bits ≡ image_length row) where
  abbrev came : List Bool
  came = map is_one bits

  long : length came ≡ image_length row
  long = length-map bits is_one ∙ size

  -- what is near is the candidate
  none_near : ((v : List Bool) → candidate (received row came) ≡ some v → Near row came v → ⊥) → answered row came (read_by_trying row came) ≡ refused no_block
  unfolding answered
  none_near far = decided (read_by_trying row came) refl
    where
      decided : (found : Option (List Bool)) → read_by_trying row came ≡ found → answered row came found ≡ refused no_block
      decided none e = refl
      decided (some v) e = let n = (exact row good came long v).0 e in absurd (far v (near_candidate row good came long v n) n)

  pub none_closes : candidate (received row came) ≡ none → answered row came (read_by_trying row came) ≡ refused no_block
  none_closes e = none_near (λ v c n. none-ne-some v (sym e ∙ c))

  module _ (u : List Bool) (only : candidate (received row came) ≡ some u) where
    same : (v : List Bool) → candidate (received row came) ≡ some v → v ≡ u
    same v c = let e : some v ≡ some u = sym c ∙ only in cc

    pub over_refused : all_zero (bits_over row u) ≡ false → answered row came (read_by_trying row came) ≡ refused no_block
    over_refused over =
        none_near (λ v c n. true≢false (sym (valid-over row v n.right) ∙ ap (λ (w : List Bool). all_zero (bits_over row w)) (same v c) ∙ over))

    module _ (whole : length u ≡ row.k) (zero : all_zero (bits_over row u) ≡ true) where
      near : differences (image_of row u) came ≤ 1 → Near row came u
      near h = record { right = valid-from row u whole (candidate-closes _ _ only).1 zero; within = h }

      pub within_one : answered row came (read_by_trying row came) ≡ within 1 no_block row came u
      unfolding answered within
      within_one = decided (leb wrong 1) refl
        where
          wrong : ℕ
          wrong = differences (image_of row u) came

          decided : (b : Bool) → leb wrong 1 ≡ b → answered row came (read_by_trying row came) ≡ within 1 no_block row came u
          decided true e = rw (e, (exact row good came long u).1 (near (leb-true wrong 1 e)))
          decided false e =
              rw e (none_near (λ v c n. let far = leb-false wrong 1 e in omega (arith, n.within, ap (λ (w : List Bool). differences (image_of row w) came) (same v c))))

pub ruleset candidate_laws = (none_closes, over_refused, within_one)
