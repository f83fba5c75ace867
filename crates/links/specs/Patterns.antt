-- What the clocks pass on of X Y0 Y1 X' Y'0 Y'1: the patterns (M.2092-1, Table 5) and tails (Table 6) of the offered links, as
-- printed. A flag 1 passes a bit on, 0 deletes it, 2 sends it twice.
use Rattle.std.specs.Prelude.{cond, List, [], ◌∷◌, ℕ, ◌+◌, ◌%◌, eqb, length, get_or}

-- the six flags of a clock, as in X; Y0; Y1; X'; Y'0; Y'1
abbrev pub flags : ℕ → ℕ → ℕ → ℕ → ℕ → ℕ → List ℕ
flags x y0 y1 x' y0' y1' = x ∷ y0 ∷ y1 ∷ x' ∷ y0' ∷ y1' ∷ []

-- a printed name, as a hexadecimal number, and the flags of its clocks
pub record Printed : Type 0 where
  pub name : ℕ
  pub clocks : List (List ℕ)

abbrev pub printed : ℕ → List (List ℕ) → Printed
printed name clocks = record { name = name; clocks = clocks }

-- Table 5
unfoldable pub patterns : List Printed
patterns =
    printed 0x2 (flags 1 1 1 0 0 1 ∷ flags 1 1 0 0 1 1 ∷ [])
    ∷ printed 0x4 (flags 1 1 0 0 1 0 ∷ [])
    ∷ printed 0x6 (flags 1 1 0 0 0 0 ∷ flags 1 0 0 0 1 0 ∷ [])
    ∷ printed 0x7a (flags 1 0 0 0 0 0 ∷ flags 1 0 0 0 0 0 ∷ flags 1 0 0 0 0 0 ∷ flags 1 1 0 0 1 0 ∷ [])
    ∷ printed 0x7b (flags 1 0 0 0 0 0 ∷ flags 1 1 0 0 0 0 ∷ flags 1 0 0 0 0 0 ∷ flags 1 0 0 0 1 0 ∷ [])
    ∷ printed 0x8 (flags 1 0 1 0 0 0 ∷ flags 1 0 0 0 0 0 ∷ flags 1 0 0 0 0 0 ∷ flags 1 0 0 0 0 0 ∷ flags 1 0 0 0 0 0 ∷ flags 1 0 0 0 0 1 ∷ [])
    ∷ []

-- Table 6
unfoldable pub tails : List Printed
tails =
    printed 0x2a (flags 1 1 1 0 0 0 ∷ flags 1 1 1 0 0 0 ∷ flags 1 1 1 0 0 0 ∷ flags 0 0 0 1 1 1 ∷ flags 0 0 0 1 1 1 ∷ flags 0 0 0 1 1 1 ∷ [])
    ∷ printed 0x2e (flags 2 1 1 0 0 0 ∷ flags 2 1 1 0 0 0 ∷ flags 2 1 0 0 0 0 ∷ flags 0 0 0 2 1 1 ∷ flags 0 0 0 2 1 1 ∷ flags 0 0 0 2 0 0 ∷ [])
    ∷ printed 0x4a (flags 2 1 0 0 0 0 ∷ flags 2 1 0 0 0 0 ∷ flags 2 0 0 0 0 0 ∷ flags 0 0 0 2 1 0 ∷ flags 0 0 0 2 1 0 ∷ flags 0 0 0 0 1 0 ∷ [])
    ∷ printed 0x6 (flags 1 1 0 0 0 0 ∷ flags 1 1 0 0 0 0 ∷ flags 1 1 0 0 0 0 ∷ flags 0 0 0 1 1 0 ∷ flags 0 0 0 1 1 0 ∷ flags 0 0 0 1 1 0 ∷ [])
    ∷ printed 0x6a (flags 1 1 0 0 0 0 ∷ flags 1 1 0 0 0 0 ∷ flags 1 0 0 0 0 0 ∷ flags 0 0 0 1 1 0 ∷ flags 0 0 0 1 1 0 ∷ flags 0 0 0 1 0 0 ∷ [])
    ∷ printed 0x7a (flags 1 1 0 0 0 0 ∷ flags 1 0 0 0 0 0 ∷ flags 1 0 0 0 0 0 ∷ flags 0 0 0 1 1 0 ∷ flags 0 0 0 1 0 0 ∷ flags 0 0 0 1 0 0 ∷ [])
    ∷ printed 0x7b (flags 1 1 0 0 0 0 ∷ flags 1 1 0 0 0 0 ∷ flags 1 1 0 0 0 0 ∷ flags 0 0 0 1 1 0 ∷ flags 0 0 0 1 1 0 ∷ flags 0 0 0 1 1 0 ∷ [])
    ∷ printed 0x8 (flags 1 0 1 0 0 0 ∷ flags 1 0 1 0 0 0 ∷ flags 1 0 1 0 0 0 ∷ flags 0 0 0 1 0 1 ∷ flags 0 0 0 1 0 1 ∷ flags 0 0 0 1 0 1 ∷ [])
    ∷ printed 0x8b (flags 1 0 1 0 0 0 ∷ flags 1 0 1 0 0 0 ∷ flags 1 0 0 0 0 0 ∷ flags 0 0 0 1 0 1 ∷ flags 0 0 0 1 0 1 ∷ flags 0 0 0 1 0 0 ∷ [])
    ∷ []

-- the clocks under a name
unfoldable pub clocks_in : List Printed → ℕ → List (List ℕ)
clocks_in [] name = []
clocks_in (p ∷ ps) name = cond (eqb p.name name) p.clocks (clocks_in ps name)

abbrev pub pattern_of : ℕ → List (List ℕ)
pattern_of name = clocks_in patterns name

abbrev pub tail_of : ℕ → List (List ℕ)
tail_of name = clocks_in tails name

-- the flags of clock s: the pattern begins again after its last clock
unfoldable pub flags_at : List (List ℕ) → ℕ → List ℕ
flags_at clocks s = get_or clocks (s % length clocks) []

-- how many bits a clock's flags pass on
unfoldable pub total : List ℕ → ℕ
total [] = 0
total (f ∷ fs) = f + total fs
