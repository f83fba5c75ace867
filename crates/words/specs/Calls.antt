-- What writing and reading a link word answer (document 01, "Link words" and "Numbers a caller gets back").
use Rattle.std.specs.Prelude.{cond, List, map, ℕ, zero, suc, ◌+◌, eqb, leb, ltb, length}
use Rattle.answers.specs.declared.Written.{Written}
use Rattle.answers.specs.Numbers.{done, not_offered, wrong_length, no_room, no_bit, no_word}
use Rattle.answers.specs.Outcome.{Outcome, refusal, writing}
use Rattle.bits.specs.Bits.{is_one, byte, all_bits}
use Rattle.bits.specs.Row.{number}
use Rattle.words.specs.declared.Word.{Word}
use Rattle.words.specs.Word.{word_of, word_bits, distance}

-- writing, in the order 1, 3
unfoldable pub write_word : ℕ → ℕ → Outcome Written
write_word n room =
    cond (ltb 63 n) (refusal not_offered)
    (cond (ltb room 32) (refusal no_room)
    (writing (map byte (word_bits n))))

-- a reader that refuses: the number, and 0 for all else
abbrev pub refused : ℕ → Word
refused n = record { status = n; number = 0; wrong = 0 }

-- a reader that answers a number and the count of wrong places
abbrev pub found : ℕ → ℕ → Word
found n wrong = record { status = done; number = n; wrong = wrong }

-- the first of `left` numbers from n on whose word is within seven of what came
unfoldable pub first_near : ℕ → ℕ → ℕ → Word
first_near came n zero = refused no_word
first_near came n (suc left) =
    cond (leb (distance (word_of n) came) 7) (found n (distance (word_of n) came)) (first_near came (n + 1) left)

-- reading, in the order 2, 4, 6
unfoldable pub read_word : List ℕ → Word
read_word row =
    cond (eqb (length row) 32)
    (cond (all_bits row) (first_near (number (map is_one row)) 0 64) (refused no_bit))
    (refused wrong_length)
