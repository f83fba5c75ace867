-- The register and the clocks behind it in one number, a bit to each: every clock shifts its a in at the low end.
use Rattle.std.specs.Prelude.{◌≡◌, Bool, List, ℕ, ◌%◌, ◌^◌, length}
use Rattle.bits.specs.Row.{number, number_on}
use Rattle.turbo.specs.Encoder.{Register, fed}
use Rattle.turbo.specs.Outputs.{outputs}
use Rattle.turbo.specs.Working.Parity.{register_after}
use Rattle.encoder.specs.Working.Number.{number_of}

-- the three old bits and then the new values of a
unfoldable pub fed_on : Register → List Bool → ℕ
fed_on r inputs = number_on (number_of r) (outputs fed r inputs)

-- whatever register and inputs made the number: the lowest bits of taps, one to each input, are the outputs y
abbrev pub Taps : (Register → Bool → Bool) → ℕ → ℕ → Type 0
Taps y made taps = (r : Register) (inputs : List Bool) → made ≡ fed_on r inputs → taps % 2 ^ length inputs ≡ number (outputs y r inputs)

-- .. and last is the register after them
abbrev pub Last : ℕ → Register → Type 0
Last made last = (r : Register) (inputs : List Bool) → made ≡ fed_on r inputs → last ≡ register_after r inputs
