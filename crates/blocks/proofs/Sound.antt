-- A good row's coding is sound, so that demand 3 holds of it, and its images are those of the document.
-- Assumes nothing.
use mathlib.Core.Path.{◌≡◌, sym, ap, ◌∙◌}
use mathlib.Core.Bool.{Bool}
use mathlib.Core.List.{List}
use Prim.Native.Nat.{ℕ}
use native.Mathlib.Nat.{le_of_eq}
use native.Mathlib.Omega.{arith}
use lib.Dec.{T}
use lib.ListN.{length}
use Rattle.bits.specs.Xor.{xor_rows}
use Rattle.distance.specs.Working.Coding.{Sound, coded as woven, image}
use Rattle.distance.proofs.Weave.{length-image as coding-length-image}
use Rattle.links.specs.declared.Row.{Row}
use Rattle.links.specs.Working.Good.{good_row}
use Rattle.links.specs.Sizes.{image_length}
use Rattle.links.proofs.Facts.{sizes}
use Rattle.turbo.specs.Coded.{coded}
use Rattle.turbo.proofs.Lengths.{length-coded}
use Rattle.turbo.proofs.Weave.{coded-weave, parity-counts, length-counts}
use Rattle.scrambler.specs.Scrambler.{loaded, sequence}
use Rattle.scrambler.proofs.Sequence.{length-sequence}
use Rattle.blocks.specs.Block.{image_of}
use Rattle.blocks.specs.Working.Coding.{coding_of}

module _ (row : Row) (good : T (good_row row)) where
  long_enough : (u : List Bool) → length u ≡ row.k → length (woven (coding_of row) u) ≡ image_length row
  unfolding coding_of
  long_enough u l = ap length (sym (coded-weave row good u l)) ∙ length-coded row good u l

  pub sound : Sound (coding_of row)
  unfolding coding_of
  sound = record {
    short = omega (arith, (sizes row good).block);
    clocks = length-counts row;
    counted = parity-counts row good;
    sized = long_enough;
    covered = le_of_eq (sym (length-sequence (image_length row) loaded));
  }

  -- the coding's image is the document's
  pub image-is : (u : List Bool) → length u ≡ row.k → image (coding_of row) u ≡ image_of row u
  unfolding coding_of image image_of
  image-is u l =
      ap (xor_rows (sequence (image_length row) loaded)) (sym (coded-weave row good u l))
      ∙ ap (λ (n : ℕ). xor_rows (sequence n loaded) (coded row u)) (sym (length-coded row good u l))

  pub length-image : (u : List Bool) → length u ≡ row.k → length (image_of row u) ≡ image_length row
  unfolding coding_of
  length-image u l = ap length (sym (image-is u l)) ∙ coding-length-image (coding_of row) sound u l
