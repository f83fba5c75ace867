-- Row by row: the word so far with the rows that are left is the word of the number. Assumes nothing.
use Rattle.std.proofs.Common.{◌≡◌, ◌≤◌, length}
use Rattle.words.specs.Word.{with_rows, word_of}
use Rattle.words.proofs.word_of.Given as goal

abbrev pub invariant-loop-row : goal.invariant-loop-row
invariant-loop-row l = (length l.rest ≤ 6) × (with_rows l.number l.word l.rest ≡ word_of l.number)

abbrev pub decreases-loop-row : goal.decreases-loop-row
decreases-loop-row l = length l.rest
