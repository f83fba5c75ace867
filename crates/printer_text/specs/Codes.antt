-- The codes of a quoted text, one byte to a character.
use mathlib.Core.List as list
use Rattle.std.specs.Prelude.{ℕ}
use Prim.Native.Char.{code}
use Prim.Native.String.{String, [], ◌∷◌}

abbrev pub codes : String → list.List ℕ
codes [] = list.[]
codes (c ∷ s) = list.◌∷◌ (code c) (codes s)
