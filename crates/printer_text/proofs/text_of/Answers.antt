-- The line is the input's front, and its answer is printed in one of the two forms. Assumes nothing.
use Rattle.std.proofs.Common.{◌≡◌, ◌∙◌, List, ℕ, map, length, take, arith}
use Rattle.std.proofs.lemmas.Grind.{common_steps}
use Rattle.words.specs.declared.Word.{Word}
use Rattle.words.specs.Calls.{read_word}
use Rattle.printer_text.specs.Line.{line_of, bit_of}
use Rattle.printer_text.specs.Lines.{padded, lines_of, text_of}
use Rattle.printer_text.proofs.Answer.{digits, some}
use Rattle.printer_text.proofs.Line.{line-front, line-within}
use Rattle.printer_text.proofs.text_of.Goals as goal

-- what is printed for a word that was read from the line
printed : (input : List ℕ) {end : ℕ} {word : Word} → end ≡ length (line_of input) → word ≡ read_word (map bit_of (take end input)) → padded (lines_of word) ≡ text_of input
unfolding text_of
printed input e w = rw (w, e, line-front input)

pub slice_bounds-read_characters-end : goal.slice_bounds-read_characters-end
slice_bounds-read_characters-end c = grind (arith, common_steps, line-within)

pub answer_lines-requires : goal.answer_lines-requires
answer_lines-requires c =
    let few = digits _ c.in-Ok.ensures in
    (few.number, few.wrong)

pub returns-in-Ok : goal.returns-in-Ok
returns-in-Ok c = c.answer_lines.ensures ∙ printed _ c.line_end.ensures c.in-Ok.ensures

pub refusal_lines-requires : goal.refusal_lines-requires
refusal_lines-requires c = rw c.into.ensures (some _, (digits _ c.in-Err.ensures).status)

pub returns-in-Err : goal.returns-in-Err
returns-in-Err c = c.refusal_lines.ensures ∙ rw c.into.ensures (printed _ c.line_end.ensures c.in-Err.ensures)
