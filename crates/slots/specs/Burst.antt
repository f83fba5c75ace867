-- A slot burst (M.2092-1, Annex 3, Table 23; document 01, "Slot bursts"): training, link word, block.
use Rattle.std.specs.Prelude.{Bool, ◌||◌, List, [], ◌∷◌, ◌++◌, ℕ, ◌+◌, eqb, take, drop}
use Rattle.bits.specs.Row.{high_first}
use Rattle.blocks.specs.Block.{block_of, image_of}
use Rattle.links.specs.Rows.{row_of}
use Rattle.links.specs.Sizes.{image_length}
use Rattle.words.specs.Word.{word_bits}

-- each symbol as two equal bits
unfoldable pub doubled : List Bool → List Bool
doubled [] = []
doubled (b ∷ symbols) = b ∷ b ∷ doubled symbols

-- the 27 training symbols, and their 54 bits
unfoldable pub symbols : List Bool
symbols = high_first 27 0b111111001101010000011001010

unfoldable pub training : List Bool
training = doubled symbols

-- the bits of the training, and of the head: training and link word
abbrev pub training_length : ℕ
training_length = 54

abbrev pub head_length : ℕ
head_length = 86

-- the head of what came, its training and its link word, and its block
module _ {A : Type 0} where
  abbrev pub head_part : List A → List A
  head_part came = take head_length came

  abbrev pub training_part : List A → List A
  training_part came = take training_length came

  abbrev pub word_part : List A → List A
  word_part came = take 32 (drop training_length came)

  abbrev pub block_part : List A → List A
  block_part came = drop head_length came

-- the links that have slot bursts
unfoldable pub is_slot_link : ℕ → Bool
is_slot_link link = eqb link 5 || (eqb link 6 || eqb link 7)

-- how long a link's slot burst is
abbrev pub burst_length : ℕ → ℕ
burst_length link = head_length + image_length (row_of link)

-- the head of a link's slot bursts, and the slot burst of a datagram
unfoldable pub head_of : ℕ → List Bool
head_of link = training ++ word_bits link

unfoldable pub burst_of : ℕ → List ℕ → List Bool
burst_of link datagram = head_of link ++ image_of (row_of link) (block_of (row_of link) datagram)
