-- What demand 3 says of a slot burst, with document 02's K7: the training is within eight places of its first 54 bits, one of the words of
-- the slot links within seven of the next 32, and a valid block's image of that link within one of the rest.
use Rattle.std.specs.Prelude.{◌≡◌, Bool, true, List, ℕ, ◌≤◌, length}
use Rattle.bits.specs.Row.{differences}
use Rattle.blocks.specs.Near.{Near as NearBlock}
use Rattle.links.specs.Rows.{row_of}
use Rattle.words.specs.Near.{Near as NearWord}
use Rattle.slots.specs.Burst.{training, head_length, training_part, word_part, block_part, is_slot_link, burst_length}

-- the head of what came is near that of a slot link
pub record NearHead (came : List Bool) (link wordWrong : ℕ) : Type 0 where
  pub slot : is_slot_link link ≡ true
  pub long : head_length ≤ length came
  pub trained : differences training (training_part came) ≤ 8
  pub word : NearWord (word_part came) link wordWrong

-- and the rest of what came near a valid block's image of that link
pub record Near (came : List Bool) (link wordWrong : ℕ) (u : List Bool) : Type 0 where
  pub head : NearHead came link wordWrong
  pub size : length came ≡ burst_length link
  pub block : NearBlock (row_of link) (block_part came) u
