-- What reading the head of a slot burst answers (document 01, "Slot bursts" and "Numbers a caller gets back").
use Rattle.std.specs.Prelude.{cond, List, map, ℕ, eqb, leb, ltb, length}
use Rattle.answers.specs.Numbers.{done, not_offered, wrong_length, no_bit, no_training, no_word}
use Rattle.bits.specs.Bits.{is_one, all_bits}
use Rattle.bits.specs.Row.{differences}
use Rattle.links.specs.Rows.{row_of}
use Rattle.links.specs.Sizes.{image_length}
use Rattle.words.specs.declared.Word.{Word}
use Rattle.words.specs.Calls.{read_word}
use Rattle.slots.specs.declared.head.Head.{Head}
use Rattle.slots.specs.Burst.{training, head_length, head_part, training_part, word_part, is_slot_link}

-- a head that is refused: the number, and 0 for all else
abbrev pub refused_head : ℕ → Head
refused_head number = record { status = number; link = 0; word_wrong = 0; training_wrong = 0; rest = 0 }

-- a head that is found: its link, the counts of wrong bits of its word and of its training, and N of the link for the rest
abbrev pub found_head : ℕ → ℕ → ℕ → Head
found_head link in_word inTraining =
    record { status = done; link = link; word_wrong = in_word; training_wrong = inTraining; rest = image_length (row_of link) }

-- in how many bits the training of a burst differs
abbrev pub wrong_in_training : List ℕ → ℕ
wrong_in_training bits = differences training (map is_one (training_part bits))

-- a head whose word was read, with so many wrong bits in its training: refused where the word is, or names no slot link
unfoldable pub named_head : Word → ℕ → Head
named_head word wrong =
    cond (eqb word.status done)
    (cond (is_slot_link word.number) (found_head word.number word.wrong wrong) (refused_head not_offered))
    (refused_head no_word)

-- reading, in the order 2, 4, 5, 6, 1; document 02, K7: "5 is now given exactly at nine or more"
unfoldable pub read_head : List ℕ → Head
read_head bits =
    cond (ltb (length bits) head_length) (refused_head wrong_length)
    (cond (all_bits (head_part bits))
    (cond (leb (wrong_in_training bits) 8) (named_head (read_word (word_part bits)) (wrong_in_training bits)) (refused_head no_training))
    (refused_head no_bit))
