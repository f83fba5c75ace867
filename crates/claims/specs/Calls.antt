-- The public calls as the relations and equations that their contracts name (those by parts are TookPart and ReadParts of parts/specs), and
-- for each call that answers a number the lines of document 01's table of numbers in the order in which it tests them.
use Rattle.std.specs.Prelude.{◌≡◌, ◌⊎◌, Bool, false, List, [], ◌∷◌, map, ℕ, ◌+◌, ◌<◌, ◌≤◌, length, take, drop}
use Rattle.answers.specs.declared.Written.{Written}
use Rattle.answers.specs.Numbers.{done, not_offered, wrong_length, no_room, no_bit, no_training, no_word, no_block, past_end, small_length, broken_fill, few_left, message_past_end, no_type, long_body}
use Rattle.answers.specs.Outcome.{WroteAt, Wrote}
use Rattle.answers.specs.Task.{Task}
use Rattle.bits.specs.Bits.{is_one, all_bits}
use Rattle.bits.specs.Row.{differences}
use Rattle.links.specs.Rows.{offered, row_of}
use Rattle.links.specs.Sizes.{bytes_held, image_length}
use Rattle.words.specs.declared.Word.{Word}
use Rattle.words.specs.Word.{word_bits}
use Rattle.words.specs.Calls.{write_word, read_word}
use Rattle.blocks.specs.declared.Block.{Block}
use Rattle.blocks.specs.Near.{Near}
use Rattle.blocks.specs.Calls.{block_task, write_block, read_block}
use Rattle.slots.specs.declared.Slot.{Slot}
use Rattle.slots.specs.Burst.{training, head_length, head_part, training_part, word_part, block_part, is_slot_link}
use Rattle.slots.specs.Calls.{slot_task, write_slot, read_slot}
use Rattle.parts.specs.State.{State, fresh, heard}
use Rattle.parts.specs.Taking.{joined, TookAll}
use Rattle.parts.specs.Asking.{ReadParts}
use Rattle.messages.specs.declared.Step.{Step}
use Rattle.messages.specs.Places.{Behind, Spoilt, Begins, FewLeft, SmallLength, MessagePastEnd}
use Rattle.messages.specs.Step.{step_message}
use Rattle.message_writer.specs.declared.Laid.{Laid as LaidBytes}
use Rattle.message_writer.specs.Message.{total_of}
use Rattle.message_writer.specs.Calls.{write_message, zero_fill}
use Rattle.message_writer.specs.Several.{Message}
use Rattle.printer_text.specs.declared.Text.{Text}
use Rattle.printer_text.specs.Lines.{text_of}
use Rattle.claims.specs.Lines.{Lines, none, line}

-- ---- what a call leaves in the lent buffer, which held `old`, and answers
abbrev pub WroteWord : ℕ → List ℕ → List ℕ → Written → Type 0
WroteWord n old new answer = Wrote (write_word n (length old)) old new answer

abbrev pub ReadWord : List ℕ → Word → Type 0
ReadWord row answer = answer ≡ read_word row

abbrev pub WroteBlock : ℕ → List ℕ → List ℕ → List ℕ → Written → Type 0
WroteBlock link datagram old new answer = Wrote (write_block link datagram (length old)) old new answer

abbrev pub ReadBlock : ℕ → List ℕ → List ℕ → List ℕ → Block → Type 0
ReadBlock link bits old new answer = Wrote (read_block link bits (length old)) old new answer

abbrev pub WroteSlot : ℕ → List ℕ → List ℕ → List ℕ → Written → Type 0
WroteSlot link datagram old new answer = Wrote (write_slot link datagram (length old)) old new answer

abbrev pub ReadSlot : List ℕ → List ℕ → List ℕ → Slot → Type 0
ReadSlot burst old new answer = Wrote (read_slot burst (length old)) old new answer

-- a burst comes in parts: from a fresh state on they are taken one after another, and then the state is asked
pub record CameInParts (burst old new : List ℕ) (answer : Slot) : Type 0 where
  pub parts : List (List ℕ)
  pub cut : joined parts ≡ burst
  pub before : State
  pub after : State
  pub took : TookAll parts fresh before
  pub asked : ReadParts before after old new answer

abbrev pub Stepped : List ℕ → ℕ → Step → Type 0
Stepped datagram position answer = answer ≡ step_message datagram position

-- a message that is laid from a start on, and zero fill
abbrev pub WroteMessage : ℕ → ℕ → ℕ → List ℕ → List ℕ → List ℕ → LaidBytes → Type 0
WroteMessage start type source body old new answer = WroteAt start (write_message start type source body (length old)) old new answer

abbrev pub ZeroFilled : ℕ → List ℕ → List ℕ → LaidBytes → Type 0
ZeroFilled start old new answer = WroteAt start (zero_fill start (length old)) old new answer

-- messages are laid, the first at a place, each next at the end of the last, and every call is done; with the place where the last one ends
pub data LaidAll : ℕ → List Message → List ℕ → List ℕ → ℕ → Type 0 where
  laid_none : {place : ℕ} {datagram : List ℕ} → LaidAll place [] datagram datagram place
  laid_next : {place end : ℕ} {m : Message} {messages : List Message} {old mid new : List ℕ} {answer : LaidBytes}
      → WroteMessage place m.type m.source m.body old mid answer → answer.status ≡ done → LaidAll (place + answer.count) messages mid new end
      → LaidAll place (m ∷ messages) old new end

-- what the link word printer prints for the bytes that came
abbrev pub Printed : List ℕ → Text → Type 0
Printed input answer = answer ≡ text_of input

-- ---- the lines of each call; `room` is the length of the lent buffer
-- number above 63; buffer too short
abbrev pub write_word_lines : ℕ → ℕ → Lines
write_word_lines n room =
    line not_offered (63 < n)
    (line no_room (room < 32)
    none)

-- not 32 bits; a byte neither 0 nor 1; no code word within seven
abbrev pub read_word_lines : List ℕ → Lines
read_word_lines row =
    line wrong_length (length row ≡ 32 → ⊥)
    (line no_bit (all_bits row ≡ false)
    (line no_word ((n : ℕ) → n < 64 → 7 < differences (word_bits n) (map is_one row))
    none))

-- a datagram: link not offered; longer than the link holds; buffer too short
abbrev pub task_lines : Task → ℕ → Lines
task_lines task room =
    line not_offered (task.offers ≡ false)
    (line wrong_length (task.held < length task.datagram)
    (line no_room (room < task.size)
    none))

-- as a block, the link being one of the twenty-three; as a slot burst, one of 5, 6, 7
abbrev pub write_block_lines : ℕ → List ℕ → ℕ → Lines
write_block_lines link datagram room = task_lines (block_task link datagram) room

abbrev pub write_slot_lines : ℕ → List ℕ → ℕ → Lines
write_slot_lines link datagram room = task_lines (slot_task link datagram) room

-- what follows once the link is known: not N bits; buffer too short; a byte neither 0 nor 1; no valid block's image within one
abbrev pub rest_lines : ℕ → List ℕ → ℕ → Lines
rest_lines link bits room =
    line wrong_length (length bits ≡ image_length (row_of link) → ⊥)
    (line no_room (room < bytes_held (row_of link))
    (line no_bit (all_bits bits ≡ false)
    (line no_block ((u : List Bool) → Near (row_of link) (map is_one bits) u → ⊥)
    none)))

-- link not offered; and what follows
abbrev pub read_block_lines : ℕ → List ℕ → ℕ → Lines
read_block_lines link bits room =
    line not_offered (offered link ≡ false)
    (rest_lines link bits room)

-- fewer than 86 bits; a non-bit in those 86; training differs, by document 02's K7 in nine bits or more
abbrev pub training_lines : List ℕ → Lines → Lines
training_lines burst behind =
    line wrong_length (length burst < head_length)
    (line no_bit (all_bits (head_part burst) ≡ false)
    (line no_training (9 ≤ differences training (map is_one (training_part burst)))
    behind))

-- the link that the word of a burst names
abbrev pub named : List ℕ → ℕ
named burst = (read_word (word_part burst)).number

-- no code word within seven; slot burst not of link 5, 6, 7
abbrev pub word_lines : List ℕ → Lines → Lines
word_lines burst behind =
    line no_word ((n : ℕ) → n < 64 → 7 < differences (word_bits n) (map is_one (word_part burst)))
    (line not_offered (is_slot_link (named burst) ≡ false)
    behind)

-- these, and then the rest as a block
abbrev pub read_slot_lines : List ℕ → ℕ → Lines
read_slot_lines burst room = training_lines burst (word_lines burst (rest_lines (named burst) (block_part burst) room))

-- by parts: these, of what was heard. Taking a part gives no number
abbrev pub read_parts_lines : State → ℕ → Lines
read_parts_lines before room = read_slot_lines (heard before) room

-- behind the 81s that are passed over a message begins, and something is so of it
abbrev pub OfMessage : List ℕ → ℕ → (List ℕ → ℕ → Type 0) → Type 0
OfMessage datagram position Is = Behind datagram position (λ place. Begins datagram place × Is datagram place)

-- position past the end; then, behind the 81s that are passed over, a message with fewer than 3 bytes left, with a length below 7, or past
-- the end; or a byte other than 0 after a 0
abbrev pub step_lines : List ℕ → ℕ → Lines
step_lines datagram position =
    line past_end (length datagram < position)
    (line few_left (OfMessage datagram position FewLeft)
    (line small_length (OfMessage datagram position SmallLength)
    (line message_past_end (OfMessage datagram position MessagePastEnd)
    (line broken_fill (Behind datagram position (Spoilt datagram))
    none))))

-- start past the buffer's end; type 0 or 81; more than 65,528 bytes after the source; no room in the buffer
abbrev pub write_message_lines : ℕ → ℕ → List ℕ → ℕ → Lines
write_message_lines start type body room =
    line past_end (room < start)
    (line no_type ((type ≡ 0) ⊎ (type ≡ 81))
    (line long_body (65528 < length body)
    (line no_room (room < start + total_of body)
    none)))

-- start past the buffer's end
abbrev pub zero_fill_lines : ℕ → ℕ → Lines
zero_fill_lines start room = line past_end (room < start) none

-- ---- what readers answer
-- a datagram, laid at the buffer's start, so many bytes of it; the bytes behind stay
pub record Laid (datagram : List ℕ) (count : ℕ) (old new : List ℕ) : Type 0 where
  pub full : count ≡ length datagram
  pub front : take count new ≡ datagram
  pub behind : drop count new ≡ drop count old

-- a block's datagram, with the number of wrong places
pub record BlockAnswer (datagram : List ℕ) (wrong : ℕ) (old new : List ℕ) (answer : Block) : Type 0 where
  pub status : answer.status ≡ done
  pub laid : Laid datagram answer.count old new
  pub wrongs : answer.wrong ≡ wrong

-- a slot burst's, with the link and the numbers of wrong places of its word and of its training
pub record SlotAnswer (datagram : List ℕ) (wrong link wordWrong wrong_in_training : ℕ) (old new : List ℕ) (answer : Slot) : Type 0 where
  pub status : answer.status ≡ done
  pub laid : Laid datagram answer.count old new
  pub wrongs : answer.wrong ≡ wrong
  pub links : answer.link ≡ link
  pub word-wrongs : answer.word_wrong ≡ wordWrong
  pub training-wrongs : answer.training_wrong ≡ wrong_in_training
