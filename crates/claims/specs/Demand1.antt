-- Demand 1, sentence by sentence: statements only, about the relations that the contracts of the public calls name.
use Rattle.std.specs.Prelude.{◌≡◌, false, List, ℕ, ◌+◌, length, take, drop}
use Rattle.answers.specs.declared.Written.{Written}
use Rattle.answers.specs.Numbers.{done, message_past_end}
use Rattle.words.specs.declared.Word.{Word}
use Rattle.blocks.specs.declared.Block.{Block}
use Rattle.slots.specs.declared.Slot.{Slot}
use Rattle.parts.specs.State.{State}
use Rattle.parts.specs.Taking.{TookPart}
use Rattle.parts.specs.Asking.{ReadParts}
use Rattle.messages.specs.declared.Step.{Step}
use Rattle.messages.specs.Step.{is_lie}
use Rattle.message_writer.specs.declared.Laid.{Laid as LaidBytes}
use Rattle.printer_text.specs.declared.Text.{Text}
use Rattle.claims.specs.Lines.{Lines, Given}
use Rattle.claims.specs.Calls.{WroteWord, ReadWord, WroteBlock, ReadBlock, WroteSlot, ReadSlot, Stepped, WroteMessage, ZeroFilled, Printed, write_word_lines, read_word_lines, write_block_lines, read_block_lines, write_slot_lines, read_slot_lines, read_parts_lines, step_lines, write_message_lines, zero_fill_lines}

-- "Every call ends and touches nothing but its own buffers, for all input, lying input included." There is no theorem of this: the
-- checker accepts a function only if it ends for all input and stays inside what it is lent, and no public call has a `requires`.
pub record Demand1 : Type 1 where
  -- "A call that can't be met gives the numbered refusal of document 01": the number is that of the first line that applies, and 0
  -- where none does. Lines give one number only
  pub one_number : (lines : Lines) (a b : ℕ) → Given lines a → Given lines b → a ≡ b
  pub write_word-number : (n : ℕ) (old new : List ℕ) (answer : Written) → WroteWord n old new answer → Given (write_word_lines n (length old)) answer.status
  pub read_word-number : (row : List ℕ) (answer : Word) → ReadWord row answer → Given (read_word_lines row) answer.status
  pub write_block-number : (link : ℕ) (datagram old new : List ℕ) (answer : Written) → WroteBlock link datagram old new answer → Given (write_block_lines link datagram (length old)) answer.status
  pub read_block-number : (link : ℕ) (bits old new : List ℕ) (answer : Block) → ReadBlock link bits old new answer → Given (read_block_lines link bits (length old)) answer.status
  pub write_slot-number : (link : ℕ) (datagram old new : List ℕ) (answer : Written) → WroteSlot link datagram old new answer → Given (write_slot_lines link datagram (length old)) answer.status
  pub read_slot-number : (burst old new : List ℕ) (answer : Slot) → ReadSlot burst old new answer → Given (read_slot_lines burst (length old)) answer.status
  pub read-parts-number : (before after : State) (old new : List ℕ) (answer : Slot) → ReadParts before after old new answer → Given (read_parts_lines before (length old)) answer.status
  pub step-number : (datagram : List ℕ) (position : ℕ) (answer : Step) → Stepped datagram position answer → Given (step_lines datagram position) answer.status
  pub write_message-number : (start type source : ℕ) (body old new : List ℕ) (answer : LaidBytes) → WroteMessage start type source body old new answer → Given (write_message_lines start type body (length old)) answer.status
  pub zero_fill-number : (start : ℕ) (old new : List ℕ) (answer : LaidBytes) → ZeroFilled start old new answer → Given (zero_fill_lines start (length old)) answer.status
  -- "and changes no lent byte", with 0 for all other numbers
  pub write_word-refused : (n : ℕ) (old new : List ℕ) (answer : Written) → WroteWord n old new answer → (answer.status ≡ done → ⊥) → (answer.count ≡ 0) × (new ≡ old)
  pub read_word-refused : (row : List ℕ) (answer : Word) → ReadWord row answer → (answer.status ≡ done → ⊥) → (answer.number ≡ 0) × (answer.wrong ≡ 0)
  pub write_block-refused : (link : ℕ) (datagram old new : List ℕ) (answer : Written) → WroteBlock link datagram old new answer → (answer.status ≡ done → ⊥) → (answer.count ≡ 0) × (new ≡ old)
  pub read_block-refused : (link : ℕ) (bits old new : List ℕ) (answer : Block) → ReadBlock link bits old new answer → (answer.status ≡ done → ⊥)
      → (answer.count ≡ 0) × (answer.wrong ≡ 0) × (new ≡ old)
  pub write_slot-refused : (link : ℕ) (datagram old new : List ℕ) (answer : Written) → WroteSlot link datagram old new answer → (answer.status ≡ done → ⊥) → (answer.count ≡ 0) × (new ≡ old)
  pub read_slot-refused : (burst old new : List ℕ) (answer : Slot) → ReadSlot burst old new answer → (answer.status ≡ done → ⊥)
      → (answer.count ≡ 0) × (answer.wrong ≡ 0) × (answer.link ≡ 0) × (answer.word_wrong ≡ 0) × (answer.training_wrong ≡ 0) × (new ≡ old)
  -- by parts too: "the state isn't among demand 1's lent bytes"
  pub read-parts-refused : (before after : State) (old new : List ℕ) (answer : Slot) → ReadParts before after old new answer → (answer.status ≡ done → ⊥)
      → (answer.count ≡ 0) × (answer.wrong ≡ 0) × (answer.link ≡ 0) × (answer.word_wrong ≡ 0) × (answer.training_wrong ≡ 0) × (new ≡ old)
  -- 0 for all other numbers, but by document 02's K3 for the place of a message that lies, and the bytes that are missing where it runs past
  -- the end
  pub step-refused : (datagram : List ℕ) (position : ℕ) (answer : Step) → Stepped datagram position answer → (answer.status ≡ done → ⊥)
      → (is_lie answer.status ≡ false → answer.start ≡ 0) × (answer.length ≡ 0) × ((answer.status ≡ message_past_end → ⊥) → answer.missing ≡ 0)
  pub write_message-refused : (start type source : ℕ) (body old new : List ℕ) (answer : LaidBytes) → WroteMessage start type source body old new answer → (answer.status ≡ done → ⊥) → (answer.count ≡ 0) × (new ≡ old)
  pub zero_fill-refused : (start : ℕ) (old new : List ℕ) (answer : LaidBytes) → ZeroFilled start old new answer → (answer.status ≡ done → ⊥) → (answer.count ≡ 0) × (new ≡ old)
  -- bytes behind those that are answered stay
  pub write_word-behind : (n : ℕ) (old new : List ℕ) (answer : Written) → WroteWord n old new answer → drop answer.count new ≡ drop answer.count old
  pub write_block-behind : (link : ℕ) (datagram old new : List ℕ) (answer : Written) → WroteBlock link datagram old new answer → drop answer.count new ≡ drop answer.count old
  pub read_block-behind : (link : ℕ) (bits old new : List ℕ) (answer : Block) → ReadBlock link bits old new answer → drop answer.count new ≡ drop answer.count old
  pub write_slot-behind : (link : ℕ) (datagram old new : List ℕ) (answer : Written) → WroteSlot link datagram old new answer → drop answer.count new ≡ drop answer.count old
  pub read_slot-behind : (burst old new : List ℕ) (answer : Slot) → ReadSlot burst old new answer → drop answer.count new ≡ drop answer.count old
  pub read-parts-behind : (before after : State) (old new : List ℕ) (answer : Slot) → ReadParts before after old new answer → drop answer.count new ≡ drop answer.count old
  -- and so do those before and behind what is laid from a start on (document 02, K6)
  pub write_message_around : (start type source : ℕ) (body old new : List ℕ) (answer : LaidBytes) → WroteMessage start type source body old new answer
      → (take start new ≡ take start old) × (drop (start + answer.count) new ≡ drop (start + answer.count) old)
  pub zero_fill_around : (start : ℕ) (old new : List ℕ) (answer : LaidBytes) → ZeroFilled start old new answer → (take start new ≡ take start old) × (drop (start + answer.count) new ≡ drop (start + answer.count) old)
  -- "Two calls with equal requests and equally long buffers give equal answers and write equal bytes, however the old contents of
  -- the buffers differed."
  pub write_word_determined : (n : ℕ) (old old' new new' : List ℕ) (answer answer' : Written) → length old ≡ length old'
      → WroteWord n old new answer → WroteWord n old' new' answer' → (answer ≡ answer') × (take answer.count new ≡ take answer.count new')
  pub read_word_determined : (row : List ℕ) (answer answer' : Word) → ReadWord row answer → ReadWord row answer' → answer ≡ answer'
  pub write_block_determined : (link : ℕ) (datagram old old' new new' : List ℕ) (answer answer' : Written) → length old ≡ length old'
      → WroteBlock link datagram old new answer → WroteBlock link datagram old' new' answer' → (answer ≡ answer') × (take answer.count new ≡ take answer.count new')
  pub read_block_determined : (link : ℕ) (bits old old' new new' : List ℕ) (answer answer' : Block) → length old ≡ length old'
      → ReadBlock link bits old new answer → ReadBlock link bits old' new' answer' → (answer ≡ answer') × (take answer.count new ≡ take answer.count new')
  pub write_slot_determined : (link : ℕ) (datagram old old' new new' : List ℕ) (answer answer' : Written) → length old ≡ length old'
      → WroteSlot link datagram old new answer → WroteSlot link datagram old' new' answer' → (answer ≡ answer') × (take answer.count new ≡ take answer.count new')
  pub read_slot_determined : (burst old old' new new' : List ℕ) (answer answer' : Slot) → length old ≡ length old'
      → ReadSlot burst old new answer → ReadSlot burst old' new' answer' → (answer ≡ answer') × (take answer.count new ≡ take answer.count new')
  pub take_part_determined : (part : List ℕ) (before after after' : State) → TookPart part before after → TookPart part before after' → after ≡ after'
  pub read-parts_determined : (before after after' : State) (old old' new new' : List ℕ) (answer answer' : Slot) → length old ≡ length old'
      → ReadParts before after old new answer → ReadParts before after' old' new' answer' → (answer ≡ answer') × (take answer.count new ≡ take answer.count new') × (after ≡ after')
  pub step_determined : (datagram : List ℕ) (position : ℕ) (answer answer' : Step) → Stepped datagram position answer → Stepped datagram position answer' → answer ≡ answer'
  pub text_determined : (input : List ℕ) (answer answer' : Text) → Printed input answer → Printed input answer' → answer ≡ answer'
  pub write_message_determined : (start type source : ℕ) (body old old' new new' : List ℕ) (answer answer' : LaidBytes) → length old ≡ length old'
      → WroteMessage start type source body old new answer → WroteMessage start type source body old' new' answer'
      → (answer ≡ answer') × (take answer.count (drop start new) ≡ take answer.count (drop start new'))
  pub zero_fill_determined : (start : ℕ) (old old' new new' : List ℕ) (answer answer' : LaidBytes) → length old ≡ length old'
      → ZeroFilled start old new answer → ZeroFilled start old' new' answer' → (answer ≡ answer') × (take answer.count (drop start new) ≡ take answer.count (drop start new'))
  -- and one content of the lent buffer is possible: with equal requests, buffers that held the same before the call hold the same after it
  pub write_word-content : (n : ℕ) (old new new' : List ℕ) (answer answer' : Written) → WroteWord n old new answer → WroteWord n old new' answer' → new ≡ new'
  pub write_block-content : (link : ℕ) (datagram old new new' : List ℕ) (answer answer' : Written)
      → WroteBlock link datagram old new answer → WroteBlock link datagram old new' answer' → new ≡ new'
  pub read_block-content : (link : ℕ) (bits old new new' : List ℕ) (answer answer' : Block) → ReadBlock link bits old new answer → ReadBlock link bits old new' answer' → new ≡ new'
  pub write_slot-content : (link : ℕ) (datagram old new new' : List ℕ) (answer answer' : Written)
      → WroteSlot link datagram old new answer → WroteSlot link datagram old new' answer' → new ≡ new'
  pub read_slot-content : (burst old new new' : List ℕ) (answer answer' : Slot) → ReadSlot burst old new answer → ReadSlot burst old new' answer' → new ≡ new'
  pub read-parts-content : (before after after' : State) (old new new' : List ℕ) (answer answer' : Slot)
      → ReadParts before after old new answer → ReadParts before after' old new' answer' → new ≡ new'
  pub write_message-content : (start type source : ℕ) (body old new new' : List ℕ) (answer answer' : LaidBytes)
      → WroteMessage start type source body old new answer → WroteMessage start type source body old new' answer' → new ≡ new'
  pub zero_fill-content : (start : ℕ) (old new new' : List ℕ) (answer answer' : LaidBytes) → ZeroFilled start old new answer → ZeroFilled start old new' answer' → new ≡ new'
