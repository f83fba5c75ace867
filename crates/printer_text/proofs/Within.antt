-- The printed bytes stand within their array.
-- Assumes nothing.
use mathlib.Core.Path.{◌≡◌}
use mathlib.Core.List.{List, map}
use Prim.Native.Nat.{ℕ, ◌-◌, ◌≤◌}
use native.Mathlib.Omega.{arith}
use lib.ListN.{length, replicate, length-append}
use Rattle.words.specs.Calls.{read_word}
use Rattle.printer_text.specs.declared.Text.{Text}
use Rattle.printer_text.specs.Line.{line_of, bit_of}
use Rattle.printer_text.specs.Lines.{lines_of, text_of}

pub within : (input : List ℕ) {text : Text} → text ≡ text_of input → text.count ≤ length text.bytes
unfolding text_of
within input e =
    let lines = lines_of (read_word (map bit_of (line_of input))) in
    rw e (omega (arith, length-append lines (replicate (32 - length lines) 0)))
