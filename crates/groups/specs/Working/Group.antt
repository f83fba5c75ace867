-- A group of 24 clocks: what it puts out, a number to each of the six, and the places that the pattern passes on.
use Rattle.std.specs.Prelude.{◌≡◌, Bool, List, [], ◌∷◌, map, ℕ, zero, suc, ◌+◌, ◌-◌, ◌/◌, ◌%◌, ◌^◌, get_or}
use Rattle.bits.specs.Bits.{byte}
use Rattle.turbo.specs.Encoder.{Register}
use Rattle.turbo.specs.Working.Parity.{register_after}
use Rattle.groups.specs.Working.Together.{sixes}

-- the binary digit at a place, 32 places to a number
unfoldable pub digit : List ℕ → ℕ → ℕ
digit all place = get_or all (place / 32) 0 / 2 ^ (place % 32) % 2

-- the places of the six of clock c, and of n clocks from c on
unfoldable pub places_of : ℕ → List ℕ
places_of c = (23 - c) ∷ (23 - c + 32) ∷ (23 - c + 64) ∷ (23 - c + 96) ∷ (23 - c + 128) ∷ (23 - c + 160) ∷ []

unfoldable pub places_from : ℕ → ℕ → List (List ℕ)
places_from c zero = []
places_from c (suc n) = places_of c ∷ places_from (suc c) n

-- what 24 clocks put out: the six of each stands at its places; and the registers after them
pub record Puts (a b : Register) (us vs : List Bool) (all : List ℕ) (after-a after-b : Register) : Type 0 where
  pub stands : map (map (digit all)) (places_from 0 24) ≡ map (map byte) (sixes a b us vs)
  pub first : after-a ≡ register_after a us
  pub second : after-b ≡ register_after b vs
