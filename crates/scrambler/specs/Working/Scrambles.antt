-- A buffer scrambled in place, by a register that is kept as a number and runs on.
use Rattle.std.specs.Prelude.{◌≡◌, Bool, List, [], ◌∷◌, ℕ, zero, suc}
use Rattle.bits.specs.Bits.{byte}
use Rattle.bits.specs.Row.{number}
use Rattle.bits.specs.Xor.{◌⊕◌}
use Rattle.scrambler.specs.Scrambler.{cells, shifted, sequence}

-- the register after n clocks
unfoldable pub after : ℕ → List Bool → List Bool
after zero cells = cells
after (suc n) cells = after n (shifted cells)

-- bytes with the bits of a key added, as far as the key goes
unfoldable pub mixed : List Bool → List ℕ → List ℕ
mixed [] bytes = bytes
mixed (k ∷ key) [] = []
mixed (k ∷ key) (x ∷ bytes) = (byte k ⊕ x) ∷ mixed key bytes

-- n bytes of a buffer have the sequence added, and the answer is the register that runs on
pub record Scrambles (state n : ℕ) (old new : List ℕ) (register : ℕ) : Type 0 where
  pub bytes : new ≡ mixed (sequence n (cells state)) old
  pub runs_on : register ≡ number (after n (cells state))
