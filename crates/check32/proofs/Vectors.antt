-- A known answer: the check of the nine characters 123456789, most significant bits first, by this generator with a register of ones and no
-- complement (listed as CRC-32/MPEG-2).
-- Assumes nothing.
use mathlib.Core.Path.{◌≡◌, refl, sym, ◌∙◌}
use mathlib.Core.Bool.{Bool}
use mathlib.Core.List.{List, [], ◌∷◌, flat_map}
use Rattle.bits.specs.Row.{high_first}
use Rattle.check32.specs.Check.{register}
use Rattle.check32.proofs.Fast.{fast_from, fast_register, fast_register_is}

abbrev pub characters : List Bool
characters = flat_map (high_first 8) (49 ∷ 50 ∷ 51 ∷ 52 ∷ 53 ∷ 54 ∷ 55 ∷ 56 ∷ 57 ∷ [])

pub nine_characters : register characters ≡ 0x0376E6E7
nine_characters = sym (fast_register_is characters) ∙ computed
  where
    computed : fast_register characters ≡ 0x0376E6E7
    computed = unfold flat_map high_first fast_from in refl
