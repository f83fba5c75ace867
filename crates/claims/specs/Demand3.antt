-- Demand 3, sentence by sentence: statements only, about the relations that the contracts of the public calls name.
use Rattle.std.specs.Prelude.{◌≡◌, ◌↔◌, Bool, true, false, List, map, ℕ, ◌+◌, ◌<◌, ◌≤◌, length, get_or, take}
use Rattle.answers.specs.declared.Written.{Written}
use Rattle.answers.specs.Numbers.{done, no_training, no_word, no_block}
use Rattle.bits.specs.Bits.{is_one, byte, all_bits}
use Rattle.bits.specs.Datagram.{all_bytes}
use Rattle.bits.specs.Row.{differences, flip}
use Rattle.links.specs.Rows.{offered, row_of}
use Rattle.links.specs.Sizes.{bytes_held, image_length}
use Rattle.words.specs.declared.Word.{Word}
use Rattle.words.specs.Word.{word_bits}
use Rattle.words.specs.Near.{Near as NearWord}
use Rattle.words.specs.Calls.{found, refused as wordRefused}
use Rattle.blocks.specs.declared.Block.{Block}
use Rattle.blocks.specs.Block.{block_of, image_of, datagram_of, zero_filled}
use Rattle.blocks.specs.Near.{Valid, Near as NearBlock}
use Rattle.slots.specs.declared.Slot.{Slot}
use Rattle.slots.specs.Burst.{training, head_length, head_part, training_part, word_part, block_part, burst_of}
use Rattle.slots.specs.Near.{Near as NearBurst}
use Rattle.claims.specs.Calls.{ReadWord, WroteBlock, ReadBlock, WroteSlot, ReadSlot, CameInParts, BlockAnswer, SlotAnswer}

pub record Demand3 : Type 0 where
  -- "One wrong bit in a block or link word is always mended": what was written, with any one place of the block inverted
  pub block_mended : (link : ℕ) (datagram old new : List ℕ) (written : Written) → all_bytes datagram ≡ true → WroteBlock link datagram old new written → written.status ≡ done
      → (place : ℕ) → place < written.count → (old' new' : List ℕ) (answer : Block) → bytes_held (row_of link) ≤ length old'
      → ReadBlock link (map byte (flip place (map is_one (take written.count new)))) old' new' answer
      → BlockAnswer (zero_filled (row_of link) datagram) 1 old' new' answer
  -- with up to seven places of the word wrong
  pub word_mended : (n : ℕ) → n < 64 → (row : List Bool) → length row ≡ 32 → differences (word_bits n) row ≤ 7
      → (answer : Word) → ReadWord (map byte row) answer → answer ≡ found n (differences (word_bits n) row)
  -- and a burst with both, and by document 02's K7 up to eight places of the training wrong
  pub slot_mended : (link : ℕ) (datagram old new : List ℕ) (written : Written) → all_bytes datagram ≡ true → WroteSlot link datagram old new written → written.status ≡ done
      → (came : List Bool) → length came ≡ written.count → differences (training_part (burst_of link datagram)) (training_part came) ≤ 8
      → differences (word_part (burst_of link datagram)) (word_part came) ≤ 7 → differences (block_part (burst_of link datagram)) (block_part came) ≤ 1
      → (old' new' : List ℕ) (answer : Slot) → bytes_held (row_of link) ≤ length old' → ReadSlot (map byte came) old' new' answer
      → SlotAnswer (zero_filled (row_of link) datagram) (differences (block_part (burst_of link datagram)) (block_part came)) link (differences (word_part (burst_of link datagram)) (word_part came))
      (differences (training_part (burst_of link datagram)) (training_part came)) old' new' answer
  -- "and never mistaken": two different code words differ in at least 16 places, two valid blocks of a link and their images in three
  pub words_apart : (m n : ℕ) → m < 64 → n < 64 → (m ≡ n → ⊥) → 16 ≤ differences (word_bits m) (word_bits n)
  pub blocks_apart : (link : ℕ) → offered link ≡ true → (u w : List Bool) → Valid (row_of link) u → Valid (row_of link) w → (u ≡ w → ⊥) → 3 ≤ differences u w
  pub images_apart : (link : ℕ) → offered link ≡ true → (u w : List Bool) → Valid (row_of link) u → Valid (row_of link) w → (u ≡ w → ⊥)
      → 3 ≤ differences (image_of (row_of link) u) (image_of (row_of link) w)
  -- "A block of the right length, made of bits, in a large enough buffer, is answered exactly when some valid block's image differs
  -- from it in at most one place."
  pub block_exact : (link : ℕ) → offered link ≡ true → (came : List Bool) → length came ≡ image_length (row_of link) → (old new : List ℕ) (answer : Block)
      → bytes_held (row_of link) ≤ length old → ReadBlock link (map byte came) old new answer
      → (answer.status ≡ done) ↔ ((u : List Bool) × NearBlock (row_of link) came u)
  pub block_none : (link : ℕ) → offered link ≡ true → (came : List Bool) → length came ≡ image_length (row_of link) → (old new : List ℕ) (answer : Block)
      → bytes_held (row_of link) ≤ length old → ReadBlock link (map byte came) old new answer
      → (answer.status ≡ no_block) ↔ ((u : List Bool) → NearBlock (row_of link) came u → ⊥)
  -- "some valid block" is "some block that can be written": a row of bits is valid if and only if it is the block of a datagram, one made
  -- of bytes that is no longer than the link holds
  pub valid_written : (link : ℕ) → offered link ≡ true → (u : List Bool)
      → Valid (row_of link) u ↔ ((datagram : List ℕ) × (all_bytes datagram ≡ true) × (length datagram ≤ bytes_held (row_of link)) × (u ≡ block_of (row_of link) datagram))
  -- "Only one such block then exists,"
  pub block_only_one : (link : ℕ) → offered link ≡ true → (came u w : List Bool) → NearBlock (row_of link) came u → NearBlock (row_of link) came w → u ≡ w
  -- "and its datagram is the answer, with the true number of wrong bits."
  pub block-answered : (link : ℕ) → offered link ≡ true → (came : List Bool) → length came ≡ image_length (row_of link) → (old new : List ℕ) (answer : Block)
      → bytes_held (row_of link) ≤ length old → ReadBlock link (map byte came) old new answer
      → (u : List Bool) → NearBlock (row_of link) came u → BlockAnswer (datagram_of (row_of link) u) (differences (image_of (row_of link) u) came) old new answer
  -- link 12: a one among the four bits over is never valid, even under a right check
  pub over-12 : (u : List Bool) → Valid (row_of 12) u → (i : ℕ) → i < 4 → get_or u (936 + i) false ≡ false
  -- "A 32-bit link word is answered exactly when one of the 64 code words is within seven places; that one is the answer."
  pub word_exact : (row : List Bool) → length row ≡ 32 → (answer : Word) → ReadWord (map byte row) answer → (n wrong : ℕ) → (answer ≡ found n wrong) ↔ NearWord row n wrong
  pub word_none : (row : List Bool) → length row ≡ 32 → (answer : Word) → ReadWord (map byte row) answer
      → (answer ≡ wordRefused no_word) ↔ ((n : ℕ) → n < 64 → 7 < differences (word_bits n) row)
  -- the word of 0 with nine of the places inverted where the words of 0 and 1 differ, whichever nine: where these two words agree the row
  -- has their bit, and in nine places it has not the bit of the word of 0. The answer is 1, with 7 wrong
  pub word_nine : (row : List Bool) → length row ≡ 32 → ((i : ℕ) → i < 32 → get_or (word_bits 0) i false ≡ get_or (word_bits 1) i false → get_or row i false ≡ get_or (word_bits 0) i false)
      → differences (word_bits 0) row ≡ 9 → (answer : Word) → ReadWord (map byte row) answer → answer ≡ found 1 7
  pub word_only_one : (row : List Bool) (m n a b : ℕ) → NearWord row m a → NearWord row n b → m ≡ n
  -- and so of slot bursts: answered exactly when the training is within eight places of the first 54 bits, the word of a slot link within seven
  -- of the next 32, a valid block's image of that link within one of the rest, and the buffer is large enough
  pub slot_exact : (came : List Bool) (old new : List ℕ) (answer : Slot) → ReadSlot (map byte came) old new answer
      → (answer.status ≡ done) ↔ ((link : ℕ) × (wordWrong : ℕ) × (u : List Bool) × NearBurst came link wordWrong u × (bytes_held (row_of link) ≤ length old))
  pub slot_only_one : (came : List Bool) (link link' wrong wrong' : ℕ) (u u' : List Bool) → NearBurst came link wrong u → NearBurst came link' wrong' u'
      → (link ≡ link') × (wrong ≡ wrong') × (u ≡ u')
  pub slot-answered : (came : List Bool) (link wordWrong : ℕ) (u : List Bool) → NearBurst came link wordWrong u → (old new : List ℕ) (answer : Slot)
      → bytes_held (row_of link) ≤ length old → ReadSlot (map byte came) old new answer
      → SlotAnswer (datagram_of (row_of link) u) (differences (image_of (row_of link) u) (block_part came)) link wordWrong (differences training (training_part came)) old new answer
  -- document 02, K7: "A slot burst is read if at most eight differ, and its answer carries that number": the number is the true one. "5 is
  -- now given exactly at nine or more", where the head is there and made of bits
  pub training-counted : (burst old new : List ℕ) (answer : Slot) → ReadSlot burst old new answer → answer.status ≡ done
      → (answer.training_wrong ≡ differences training (map is_one (training_part burst))) × (answer.training_wrong ≤ 8)
  pub training-refused : (burst old new : List ℕ) (answer : Slot) → ReadSlot burst old new answer
      → (answer.status ≡ no_training) ↔ ((head_length ≤ length burst) × (all_bits (head_part burst) ≡ true) × (9 ≤ differences training (map is_one (training_part burst))))
  -- document 02, K2: "Demand 3 then holds for bursts that came in parts", however they were cut
  pub parts_mended : (link : ℕ) (datagram old new : List ℕ) (written : Written) → all_bytes datagram ≡ true → WroteSlot link datagram old new written → written.status ≡ done
      → (came : List Bool) → length came ≡ written.count → differences (training_part (burst_of link datagram)) (training_part came) ≤ 8
      → differences (word_part (burst_of link datagram)) (word_part came) ≤ 7 → differences (block_part (burst_of link datagram)) (block_part came) ≤ 1
      → (old' new' : List ℕ) (answer : Slot) → bytes_held (row_of link) ≤ length old' → CameInParts (map byte came) old' new' answer
      → SlotAnswer (zero_filled (row_of link) datagram) (differences (block_part (burst_of link datagram)) (block_part came)) link (differences (word_part (burst_of link datagram)) (word_part came))
      (differences (training_part (burst_of link datagram)) (training_part came)) old' new' answer
  pub parts_exact : (came : List Bool) (old new : List ℕ) (answer : Slot) → CameInParts (map byte came) old new answer
      → (answer.status ≡ done) ↔ ((link : ℕ) × (wordWrong : ℕ) × (u : List Bool) × NearBurst came link wordWrong u × (bytes_held (row_of link) ≤ length old))
  pub parts-answered : (came : List Bool) (link wordWrong : ℕ) (u : List Bool) → NearBurst came link wordWrong u → (old new : List ℕ) (answer : Slot)
      → bytes_held (row_of link) ≤ length old → CameInParts (map byte came) old new answer
      → SlotAnswer (datagram_of (row_of link) u) (differences (image_of (row_of link) u) (block_part came)) link wordWrong (differences training (training_part came)) old new answer
  pub parts-training-counted : (burst old new : List ℕ) (answer : Slot) → CameInParts burst old new answer → answer.status ≡ done
      → (answer.training_wrong ≡ differences training (map is_one (training_part burst))) × (answer.training_wrong ≤ 8)
  pub parts-training-refused : (burst old new : List ℕ) (answer : Slot) → CameInParts burst old new answer
      → (answer.status ≡ no_training) ↔ ((head_length ≤ length burst) × (all_bits (head_part burst) ≡ true) × (9 ≤ differences training (map is_one (training_part burst))))
