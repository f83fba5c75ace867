-- When reading a slot burst is answered and when it is refused, one law for each way.
-- Assumes nothing.
use mathlib.Core.Path.{◌≡◌}
use mathlib.Core.Bool.{true, false}
use mathlib.Core.List.{List}
use Prim.Native.Nat.{ℕ, ◌<◌, ◌≤◌}
use native.Mathlib.Omega.{arith}
use lib.ListN.{length}
use borrow.Author.Tests.{lt-ltb, le-ltb, le-leb, lt-leb, eq-eqb, ne_eqb}
use Rattle.answers.specs.declared.Refusal.{Refusal}
use Rattle.answers.specs.Working.Refusals.{number_of}
use Rattle.answers.specs.Numbers.{done, not_offered, wrong_length, no_bit, no_training, no_word}
use Rattle.bits.specs.Bits.{all_bits}
use Rattle.blocks.specs.Calls.{read_block}
use Rattle.words.specs.declared.Word.{Word}
use Rattle.words.specs.Calls.{read_word}
use Rattle.slots.specs.Burst.{head_length, head_part, word_part, block_part, is_slot_link}
use Rattle.slots.specs.Head.{refused_head, found_head, wrong_in_training, named_head, read_head}
use Rattle.slots.specs.Calls.{refused, joined, read_slot}

-- no refusal has the number of what is done
pub refusal_number : (refusal : Refusal) → 0 < number_of refusal
refusal_number refusal = grind arith

-- ---- the word of the head
module _ (word : Word) (wrong : ℕ) where
  pub word-refused : (word.status ≡ done → ⊥) → named_head word wrong ≡ refused_head no_word
  unfolding named_head
  word-refused h = rw (ne_eqb word.status done h)

  module _ (read : word.status ≡ done) where
    pub word-no-slot : is_slot_link word.number ≡ false → named_head word wrong ≡ refused_head not_offered
    unfolding named_head
    word-no-slot h = rw (eq-eqb word.status done read, h)

    pub word-slot : is_slot_link word.number ≡ true → named_head word wrong ≡ found_head word.number word.wrong wrong
    unfolding named_head
    word-slot h = rw (eq-eqb word.status done read, h)

-- ---- the head
module _ (burst : List ℕ) where
  pub head-short : length burst < head_length → read_head burst ≡ refused_head wrong_length
  unfolding read_head
  head-short h = rw (lt-ltb (length burst) head_length h)

  module _ (long : head_length ≤ length burst) where
    pub head-no_bit : all_bits (head_part burst) ≡ false → read_head burst ≡ refused_head no_bit
    unfolding read_head
    head-no_bit h = rw (le-ltb (length burst) head_length long, h)

    module _ (all : all_bits (head_part burst) ≡ true) where
      pub head-no_training : 8 < wrong_in_training burst → read_head burst ≡ refused_head no_training
      unfolding read_head
      head-no_training h = rw (le-ltb (length burst) head_length long, all, lt-leb (wrong_in_training burst) 8 h)

      -- with its training near, a head goes by its word
      pub head-word : {word : Word} {wrong : ℕ} → read_word (word_part burst) ≡ word → wrong_in_training burst ≡ wrong → wrong ≤ 8 → read_head burst ≡ named_head word wrong
      unfolding read_head
      head-word r t h = rw (le-ltb (length burst) head_length long, all, le-leb (wrong_in_training burst) 8 (omega (arith, t, h)), r, t)

-- ---- reading
module _ (burst : List ℕ) (room : ℕ) where
  pub read-refused : ((read_head burst).status ≡ done → ⊥) → read_slot burst room ≡ refused (read_head burst).status
  unfolding read_slot
  read-refused h = rw (ne_eqb (read_head burst).status done h)

  pub read-joined : (read_head burst).status ≡ done
      → read_slot burst room ≡ joined (read_head burst) (read_block (read_head burst).link (block_part burst) room)
  unfolding read_slot
  read-joined h = rw (eq-eqb (read_head burst).status done h)
