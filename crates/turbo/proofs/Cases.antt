-- The cases of document 01 about the encoder and the interleaver: antt computes both sides.
-- Assumes nothing.
use mathlib.Core.Path.{◌≡◌, refl}
use mathlib.Core.Bool.{true, false, xor}
use mathlib.Core.List.{[], ◌∷◌, map}
use lib.ListN.{replicate}
use Rattle.bits.specs.Bits.{byte}
use Rattle.links.specs.Patterns.{flags}
use Rattle.links.specs.Rows.{rows, place_in, row_of}
use Rattle.turbo.specs.Encoder.{start, next, y0, y1}
use Rattle.turbo.specs.Interleaver.{position}
use Rattle.turbo.specs.Coded.{passed, alone, ending_of}
use Rattle.turbo.specs.Outputs.{outputs}

pub p7_y0 : map byte (outputs y0 start (true ∷ replicate 7 false)) ≡ 1 ∷ 1 ∷ 1 ∷ 1 ∷ 0 ∷ 0 ∷ 1 ∷ 0 ∷ []
unfolding outputs xor
p7_y0 = refl

pub p7_y1 : map byte (outputs y1 start (true ∷ replicate 7 false)) ≡ 1 ∷ 1 ∷ 0 ∷ 1 ∷ 1 ∷ 1 ∷ 0 ∷ 0 ∷ []
unfolding outputs xor
p7_y1 = refl

-- X Y0 Y1 of the three clocks of the ending after a single 1, when all three pass
pub p8 : map byte (ending_of false (replicate 3 (flags 1 1 1 0 0 0)) (next start true)) ≡ 0 ∷ 1 ∷ 1 ∷ 1 ∷ 0 ∷ 1 ∷ 1 ∷ 1 ∷ 1 ∷ []
unfolding ending_of alone passed xor
p8 = refl

pub p9 : map (position (row_of 20)) (1 ∷ 2 ∷ 3 ∷ 4 ∷ 95 ∷ 96 ∷ []) ≡ 2 ∷ 43 ∷ 76 ∷ 21 ∷ 24 ∷ 65 ∷ []
unfolding position rows place_in row_of
p9 = refl
