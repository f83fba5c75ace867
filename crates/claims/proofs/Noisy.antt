-- The cases with wrong bits, P4 to P6 and document 02's K7: link words, and heads with something behind them.
-- Assumes nothing.
use mathlib.Core.Path.{◌≡◌, refl, ap, ◌∙◌}
use mathlib.Core.Bool.{Bool, true}
use mathlib.Core.List.{List, ◌∷◌, ◌++◌, map}
use Prim.Native.Nat.{ℕ, ◌≤◌}
use native.Mathlib.Omega.{arith}
use lib.Dec.{ltb, ltb→lt, lit<, lit≤}
use lib.ListN.{length, take, length-map, length-append}
use lib.Seq.{drop_at}
use Rattle.answers.specs.Numbers.{done, not_offered, no_bit, no_training, no_word}
use Rattle.answers.specs.Outcome.{Outcome}
use Rattle.lists.specs.Every.{every}
use Rattle.lists.proofs.Line.{line}
use Rattle.bits.specs.Bits.{byte}
use Rattle.bits.specs.Row.{high_first, differences}
use Rattle.bits.proofs.Differences.{differences_self}
use Rattle.blocks.specs.Block.{block_of, image_of}
use Rattle.blocks.proofs.Blocks.{length-datagram, long-image, block-valid}
use Rattle.links.specs.Rows.{rows, place_in, row_of}
use Rattle.links.specs.Sizes.{bytes_held}
use Rattle.links.proofs.Good.{good}
use Rattle.slots.specs.Burst.{doubled, symbols, training, head_length, training_part, block_part, is_slot_link}
use Rattle.slots.specs.declared.Slot.{Slot}
use Rattle.slots.specs.Near.{NearHead, Near}
use Rattle.slots.specs.Calls.{read_slot, refused as slot-refused}
use Rattle.slots.proofs.Answered.{burst-answered}
use Rattle.slots.proofs.Calls.{word-refused, word-no-slot, head-no_bit, head-no_training, head-word}
use Rattle.slots.proofs.Links.{slot-offered}
use Rattle.slots.proofs.WaysOfReading.{head-refuses}
use Rattle.words.specs.Word.{generator, with_rows, word_of, word_bits}
use Rattle.words.specs.Calls.{read_word, refused, found}
use Rattle.words.proofs.Exact.{near_found, far_refused}
use Rattle.claims.specs.Cases.{first_inverted, inverted, noisy}

-- ---- words
pub seven_wrong : read_word (map byte (first_inverted 7 (word_bits 5))) ≡ found 5 7
unfolding high_first generator with_rows word_of differences
seven_wrong = near_found (first_inverted 7 (word_bits 5)) refl 5 7 (record { known = lit< tt; count = refl; within = lit≤ tt })

-- every word is eight or more from the word of 5 with its first eight bits inverted
abbrev beyond : ℕ → Bool
beyond n = ltb 7 (differences (word_bits n) (first_inverted 8 (word_bits 5)))

pub eight_wrong : read_word (map byte (first_inverted 8 (word_bits 5))) ≡ refused no_word
unfolding high_first generator with_rows word_of differences
eight_wrong = far_refused (first_inverted 8 (word_bits 5)) refl (λ n h. ltb→lt 7 (differences (word_bits n) (first_inverted 8 (word_bits 5))) (line 64 beyond tt n h))

pub nine_wrong : read_word (map byte (inverted 9 (word_bits 0) (word_bits 1))) ≡ found 1 7
unfolding high_first generator with_rows word_of differences
nine_wrong = near_found (inverted 9 (word_bits 0) (word_bits 1)) refl 1 7 (record { known = lit< tt; count = refl; within = lit≤ tt })

-- ---- heads
-- a head that is near that of a slot link, and behind it the image of a datagram's block
module _ (link : ℕ) (slot : is_slot_link link ≡ true) (datagram : List ℕ) (fits : length datagram ≤ bytes_held (row_of link)) (head : List Bool) (size : length head ≡ head_length) where
  abbrev image : List Bool
  image = image_of (row_of link) (block_of (row_of link) datagram)

  none-wrong : differences image (block_part (head ++ image)) ≡ 0
  none-wrong = ap (differences image) (drop_at head image head_length size) ∙ differences_self image

  pub good-behind : {wordWrong : ℕ} → NearHead (head ++ image) link wordWrong → Near (head ++ image) link wordWrong (block_of (row_of link) datagram)
  good-behind near =
      let row-good = good link (slot-offered link slot) in
      record {
        head = near;
        size = omega (arith, length-append head image, size, length-map image byte, long-image (row_of link) row-good datagram);
        block = record { right = block-valid (row_of link) row-good datagram fits; within = omega (arith, none-wrong) };
      }

module _ (datagram : List ℕ) (fits : length datagram ≤ 32) (room : ℕ) (enough : 32 ≤ room) where
  abbrev rest_5 : List Bool
  rest_5 = image_of (row_of 5) (block_of (row_of 5) datagram)

  -- a head of 5 with wrong bits, and the block of a datagram behind it
  noisy-read : (head : List Bool) → length head ≡ head_length → (wordWrong : ℕ) → NearHead (head ++ rest_5) 5 wordWrong
      → (read_slot (map byte (head ++ rest_5)) room).answer ≡ record { status = done; count = 32; wrong = 0; link = 5; word_wrong = wordWrong; training_wrong = differences training (training_part (head ++ rest_5)) }
  unfolding rows place_in row_of is_slot_link
  noisy-read head size wordWrong near =
      let u = block_of (row_of 5) datagram in
      ap (λ (outcome : Outcome Slot). outcome.answer) (burst-answered (head ++ rest_5) 5 wordWrong u (good-behind 5 refl datagram fits head size near) room enough)
      ∙ rw (length-datagram (row_of 5) u, none-wrong 5 refl datagram fits head size)

  pub noisy-answered : ((read_slot (map byte (noisy 1 0 5 ++ rest_5)) room).answer ≡ record { status = done; count = 32; wrong = 0; link = 5; word_wrong = 0; training_wrong = 1 })
      × ((read_slot (map byte (noisy 8 7 5 ++ rest_5)) room).answer ≡ record { status = done; count = 32; wrong = 0; link = 5; word_wrong = 7; training_wrong = 8 })
  unfolding high_first doubled symbols training generator with_rows word_of differences is_slot_link
  noisy-answered = (
    noisy-read (noisy 1 0 5) refl 0 (record { slot = refl; long = omega (arith, length-append (noisy 1 0 5) rest_5); trained = lit≤ tt; word = record { known = lit< tt; count = refl; within = lit≤ tt } }),
    noisy-read (noisy 8 7 5) refl 7 (record { slot = refl; long = omega (arith, length-append (noisy 8 7 5) rest_5); trained = lit≤ tt; word = record { known = lit< tt; count = refl; within = lit≤ tt } }),
  )

-- heads that are refused, with anything behind them
module _ (rest : List Bool) (room : ℕ) where
  noisy-long : (head : List Bool) → length head ≡ head_length → head_length ≤ length (map byte (head ++ rest))
  noisy-long head size = omega (arith, length-map (head ++ rest) byte, length-append head rest, size)

  pub far_training : (read_slot (map byte (noisy 9 0 5 ++ rest)) room ≡ slot-refused no_training) × (read_slot (map byte (noisy 9 8 5 ++ rest)) room ≡ slot-refused no_training)
  unfolding high_first doubled symbols training generator with_rows word_of every differences
  far_training = (
    head-refuses _ room no_training (λ z. omega (arith, z)) (head-no_training (map byte (noisy 9 0 5 ++ rest)) (noisy-long (noisy 9 0 5) refl) refl (lit< tt)),
    head-refuses _ room no_training (λ z. omega (arith, z)) (head-no_training (map byte (noisy 9 8 5 ++ rest)) (noisy-long (noisy 9 8 5) refl) refl (lit< tt)),
  )

  pub far_word : read_slot (map byte (noisy 8 8 5 ++ rest)) room ≡ slot-refused no_word
  unfolding high_first doubled symbols training generator with_rows word_of every differences
  far_word =
      head-refuses _ room no_word (λ z. omega (arith, z))
      (head-word (map byte (noisy 8 8 5 ++ rest)) (noisy-long (noisy 8 8 5) refl) refl eight_wrong refl (lit≤ tt) ∙ word-refused (refused no_word) _ (λ z. omega (arith, z)))

  pub other-link : read_slot (map byte (noisy 8 7 4 ++ rest)) room ≡ slot-refused not_offered
  unfolding high_first doubled symbols training generator with_rows word_of every differences is_slot_link
  other-link =
      let word = near_found (first_inverted 7 (word_bits 4)) refl 4 7 (record { known = lit< tt; count = refl; within = lit≤ tt }) in
      head-refuses _ room not_offered (λ z. omega (arith, z))
      (head-word (map byte (noisy 8 7 4 ++ rest)) (noisy-long (noisy 8 7 4) refl) refl word refl (lit≤ tt) ∙ word-no-slot (found 4 7) _ refl refl)

  pub no_bit-first : read_slot (map byte (take 85 (noisy 9 8 5)) ++ 2 ∷ map byte rest) room ≡ slot-refused no_bit
  unfolding high_first doubled symbols training generator with_rows word_of every
  no_bit-first =
      let burst = map byte (take 85 (noisy 9 8 5)) ++ 2 ∷ map byte rest in
      head-refuses burst room no_bit (λ z. omega (arith, z)) (head-no_bit burst (omega (arith, length-append (map byte (take 85 (noisy 9 8 5))) (2 ∷ map byte rest))) refl)
