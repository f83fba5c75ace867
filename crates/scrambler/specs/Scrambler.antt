-- The scrambler (M.2092-1, Annex 2, 1.2.6): 1 + x^14 + x^15 over a register of fifteen cells, cell 1 first. It starts afresh with
-- each burst, and covers every bit of the image.
use Rattle.std.specs.Prelude.{Bool, false, List, [], ◌∷◌, ℕ, zero, suc, length, get_or, take}
use Rattle.std.specs.Bool.{xor}
use Rattle.bits.specs.Row.{high_first}
use Rattle.bits.specs.Xor.{xor_rows}

-- the cells of a register that is kept as a number, cell 1 the highest digit
abbrev pub cells : ℕ → List Bool
cells register = high_first 15 register

-- the loading word, cell 1 first
abbrev pub loading_word : ℕ
loading_word = 0b100101010000000

abbrev pub loaded : List Bool
loaded = cells loading_word

-- what the register puts out: cell 14 plus cell 15
unfoldable pub output : List Bool → Bool
output cells = xor (get_or cells 13 false) (get_or cells 14 false)

-- it is fed into cell 1, and the cells move on
unfoldable pub shifted : List Bool → List Bool
shifted cells = output cells ∷ take 14 cells

-- n bits of its sequence
unfoldable pub sequence : ℕ → List Bool → List Bool
sequence zero cells = []
sequence (suc n) cells = output cells ∷ sequence n (shifted cells)

-- a row scrambled by a register, and by a fresh one
abbrev pub scrambled_by : List Bool → List Bool → List Bool
scrambled_by cells row = xor_rows (sequence (length row) cells) row

abbrev pub scrambled : List Bool → List Bool
scrambled row = scrambled_by loaded row
