-- What a caller learns from a scrambling call.
-- Assumes nothing.
use mathlib.Core.Path.{◌≡◌, refl, sym, ap, ap₂, ◌∙◌}
use mathlib.Core.Bool.{Bool}
use mathlib.Core.List.{List, [], ◌∷◌, ◌++◌, map}
use Prim.Native.Nat.{ℕ}
use native.Mathlib.Omega.{arith}
use lib.ListN.{length}
use Rattle.bits.specs.Bits.{byte}
use Rattle.bits.specs.Xor.{xor_rows}
use Rattle.bits.proofs.Xor.{⊕-bits}
use Rattle.scrambler.specs.Scrambler.{cells, sequence, scrambled_by}
use Rattle.scrambler.specs.Working.Scrambles.{mixed, Scrambles}
use Rattle.scrambler.proofs.Sequence.{length-sequence}

-- a key added to bytes that are bits
mixed-row : (key row : List Bool) (rest : List ℕ) → length row ≡ length key → mixed key (map byte row ++ rest) ≡ map byte (xor_rows key row) ++ rest
unfolding mixed xor_rows
mixed-row [] [] rest e = refl
mixed-row [] (x ∷ row) rest e = absurd (omega arith)
mixed-row (k ∷ key) [] rest e = absurd (omega arith)
mixed-row (k ∷ key) (x ∷ row) rest e = ap₂ ◌∷◌ (⊕-bits k x) (mixed-row key row rest (omega arith))

module _ {state n register : ℕ} {old new : List ℕ} (s : Scrambles state n old new register) where
  -- a row at the buffer's start is scrambled, and what stands behind it stays
  pub scrambles_row : (row : List Bool) (rest : List ℕ) → old ≡ map byte row ++ rest → length row ≡ n → new ≡ map byte (scrambled_by (cells state) row) ++ rest
  scrambles_row row rest e l =
      s.bytes
      ∙ ap (mixed (sequence n (cells state))) e
      ∙ rw l (mixed-row (sequence n (cells state)) row rest (l ∙ sym (length-sequence n (cells state))))
