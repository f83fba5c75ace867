-- The three lines that the link word printer prints (document 01, "The link word printer").
use Rattle.std.specs.Prelude.{cond, List, [], ◌∷◌, ◌++◌, map, ℕ, ◌+◌, ◌-◌, ◌/◌, ◌%◌, eqb, ltb, length, replicate}
use Prim.Native.String.{String}
use Rattle.words.specs.declared.Word.{Word}
use Rattle.words.specs.Calls.{read_word}
use Rattle.printer_text.specs.declared.Text.{Text}
use Rattle.printer_text.specs.Codes.{codes}
use Rattle.printer_text.specs.Line.{line_of, bit_of}

-- a number below 100 in decimal
abbrev pub decimal : ℕ → List ℕ
decimal n = cond (ltb n 10) ((48 + n) ∷ []) ((48 + n / 10) ∷ (48 + n % 10) ∷ [])

abbrev pub line_with : String → List ℕ → List ℕ
line_with name value = codes name ++ value ++ codes "\n"

-- status, link and wrong, in this order; on a refusal link and wrong are `none`
abbrev pub lines_of : Word → List ℕ
lines_of word =
    line_with "status=" (decimal word.status)
    ++ cond (eqb word.status 0)
    (line_with "link=" (decimal word.number) ++ line_with "wrong=" (decimal word.wrong))
    (line_with "link=" (codes "none") ++ line_with "wrong=" (codes "none"))

-- the printed bytes in an array of 32, with zeros behind them
abbrev pub padded : List ℕ → Text
padded lines = record { bytes = lines ++ replicate (32 - length lines) 0; count = length lines }

-- what is printed for the bytes that came
unfoldable pub text_of : List ℕ → Text
text_of input = padded (lines_of (read_word (map bit_of (line_of input))))
