-- Demand 2, sentence by sentence: statements only, about the relations that the contracts of the public calls name.
use Rattle.std.specs.Prelude.{◌≡◌, ◌↔◌, Bool, true, List, [], ◌∷◌, ◌++◌, map, ℕ, ◌+◌, ◌*◌, ◌<◌, ◌≤◌, min, length, get_or, take, drop, replicate}
use Rattle.lists.specs.Every.{every}
use Rattle.answers.specs.declared.Written.{Written}
use Rattle.answers.specs.Numbers.{done, broken_fill, message_past_end}
use Rattle.bits.specs.Bits.{byte}
use Rattle.bits.specs.Datagram.{all_bytes}
use Rattle.links.specs.Patterns.{pattern_of, flags_at}
use Rattle.links.specs.Rows.{rows, offered, row_of}
use Rattle.links.specs.Sizes.{bytes_held, image_length}
use Rattle.turbo.specs.Coded.{six, passed}
use Rattle.turbo.specs.Encoder.{Register, y0, y1}
use Rattle.turbo.specs.Interleaver.{position, InBlock}
use Rattle.words.specs.declared.Word.{Word}
use Rattle.words.specs.Word.{word_bits}
use Rattle.words.specs.Calls.{found}
use Rattle.blocks.specs.declared.Block.{Block}
use Rattle.blocks.specs.Block.{block_of, image_of, zero_filled}
use Rattle.slots.specs.declared.Slot.{Slot}
use Rattle.slots.specs.Burst.{is_slot_link, burst_length, burst_of}
use Rattle.parts.specs.State.{longest, stop, State, state, fresh}
use Rattle.parts.specs.Taking.{TookPart, joined, TookAll}
use Rattle.parts.specs.Asking.{ReadParts}
use Rattle.messages.specs.declared.Step.{Step}
use Rattle.messages.specs.Places.{byte_at, PassedOver, Behind, NoneLeft, Spoilt, Begins, LieAt, Whole}
use Rattle.messages.specs.Step.{finished, message, lie, is_lie, refused as stepRefused}
use Rattle.messages.specs.Tiling.{Tiles, Leads, Tiled, bytes_of}
use Rattle.messages.specs.Walk.{Walks, walk}
use Rattle.message_writer.specs.declared.Laid.{Laid as LaidBytes}
use Rattle.message_writer.specs.Message.{total_of, message_of, source_at}
use Rattle.message_writer.specs.Several.{Message, is_message, bytes_of_all, steps_of}
use Rattle.claims.specs.Calls.{WroteWord, ReadWord, WroteBlock, ReadBlock, WroteSlot, ReadSlot, CameInParts, Stepped, WroteMessage, ZeroFilled, LaidAll, BlockAnswer, SlotAnswer}

pub record Demand2 : Type 0 where
  -- "Link words, blocks and slot bursts are those of ITU-R M.2092-1, for the twenty-two links that document 01 lists", and link 4, by
  -- document 02's K4: "All three demands read over twenty-three links." They are what is written whenever the request can be met. That the
  -- definitions are the Recommendation's is read beside it, and tried
  pub links : map (λ row. row.link) rows ≡ 4 ∷ 5 ∷ 6 ∷ 7 ∷ 8 ∷ 9 ∷ 10 ∷ 11 ∷ 12 ∷ 13 ∷ 14 ∷ 15 ∷ 16 ∷ 17 ∷ 18 ∷ 19 ∷ 20 ∷ 21 ∷ 22 ∷ 23 ∷ 25 ∷ 32 ∷ 33 ∷ []
  pub words_written : (n : ℕ) (old new : List ℕ) (answer : Written) → n ≤ 63 → 32 ≤ length old
      → WroteWord n old new answer → (answer.status ≡ done) × (answer.count ≡ 32) × (take 32 new ≡ map byte (word_bits n))
  pub blocks_written : (link : ℕ) (datagram old new : List ℕ) (answer : Written) → offered link ≡ true → length datagram ≤ bytes_held (row_of link) → image_length (row_of link) ≤ length old
      → WroteBlock link datagram old new answer
      → (answer.status ≡ done) × (answer.count ≡ image_length (row_of link)) × (take answer.count new ≡ map byte (image_of (row_of link) (block_of (row_of link) datagram)))
  pub slots_written : (link : ℕ) (datagram old new : List ℕ) (answer : Written) → is_slot_link link ≡ true → length datagram ≤ bytes_held (row_of link) → burst_length link ≤ length old
      → WroteSlot link datagram old new answer
      → (answer.status ≡ done) × (answer.count ≡ burst_length link) × (take answer.count new ≡ map byte (burst_of link datagram))
  -- the interleaver is a permutation of 1 to k on every link
  pub interleaver_within : (link : ℕ) → offered link ≡ true → (s : ℕ) → InBlock (row_of link) (position (row_of link) s)
  pub interleaver_once : (link : ℕ) → offered link ≡ true → (s r : ℕ) → InBlock (row_of link) s → InBlock (row_of link) r → position (row_of link) s ≡ position (row_of link) r → s ≡ r
  pub interleaver_onto : (link : ℕ) → offered link ≡ true → (r : ℕ) → InBlock (row_of link) r → (s : ℕ) × InBlock (row_of link) s × (position (row_of link) s ≡ r)
  -- and k is k1 times k2
  pub block_product : (link : ℕ) → offered link ≡ true → (row_of link).k1 * (row_of link).k2 ≡ (row_of link).k
  -- N of each link, in the order of `links`
  pub image_lengths : map image_length rows ≡ 1281 ∷ 394 ∷ 906 ∷ 1418 ∷ 396 ∷ 908 ∷ 1420 ∷ 874 ∷ 1308 ∷ 1740 ∷ 1804 ∷ 2700 ∷ 3596 ∷ 3754 ∷ 5388 ∷ 7500 ∷ 402 ∷ 1112 ∷ 4692 ∷ 6828 ∷ 9562 ∷ 1269 ∷ 12855 ∷ []
  -- at every clock s of every link's block X passes once and X' never: of its six flags, for X Y0 Y1 X' Y'0 Y'1, the first is 1 and the
  -- fourth is 0
  pub x_once : (link : ℕ) → offered link ≡ true → (s : ℕ) → let flags = flags_at (pattern_of (row_of link).pattern) s in (get_or flags 0 0 ≡ 1) × (get_or flags 3 0 ≡ 0)
  -- so such a clock, with registers a and b and inputs x and y, passes on x, then what the flags let pass of Y0 and Y1, then of Y'0 and
  -- Y'1, and nothing else
  pub x_passes : (link : ℕ) → offered link ≡ true → (s : ℕ) (a b : Register) (x y : Bool) → let flags = flags_at (pattern_of (row_of link).pattern) s in
      passed flags (six a b x y) ≡ x ∷ passed (take 2 (drop 1 flags)) (y0 a x ∷ y1 a x ∷ []) ++ passed (drop 4 flags) (y0 b y ∷ y1 b y ∷ [])
  -- "What we write we read back: the datagram, zero-filled to its link's size."
  pub words_back : (n : ℕ) (old new : List ℕ) (written : Written) → WroteWord n old new written → written.status ≡ done
      → (answer : Word) → ReadWord (take written.count new) answer → answer ≡ found n 0
  pub blocks_back : (link : ℕ) (datagram old new : List ℕ) (written : Written) → all_bytes datagram ≡ true → WroteBlock link datagram old new written → written.status ≡ done
      → (old' new' : List ℕ) (answer : Block) → bytes_held (row_of link) ≤ length old' → ReadBlock link (take written.count new) old' new' answer
      → BlockAnswer (zero_filled (row_of link) datagram) 0 old' new' answer
  pub slots_back : (link : ℕ) (datagram old new : List ℕ) (written : Written) → all_bytes datagram ≡ true → WroteSlot link datagram old new written → written.status ≡ done
      → (old' new' : List ℕ) (answer : Slot) → bytes_held (row_of link) ≤ length old' → ReadSlot (take written.count new) old' new' answer
      → SlotAnswer (zero_filled (row_of link) datagram) 0 link 0 0 old' new' answer
  -- zeros at a datagram's end are kept: a reader answers all the bytes that the link holds
  pub blocks_full : (link : ℕ) (bits old new : List ℕ) (answer : Block) → ReadBlock link bits old new answer → answer.status ≡ done → answer.count ≡ bytes_held (row_of link)
  pub slots_full : (burst old new : List ℕ) (answer : Slot) → ReadSlot burst old new answer → answer.status ≡ done → answer.count ≡ bytes_held (row_of answer.link)
  -- document 02, K2: "The longest burst is 1,504 bits; of a longer one the first 1,504 are kept, and the count stops at 1,505."
  pub parts-longest : ((link : ℕ) → is_slot_link link ≡ true → burst_length link ≤ longest) × (burst_length 7 ≡ longest)
  pub parts-kept : (parts : List (List ℕ)) (after : State) → TookAll parts fresh after
      → (after.count ≡ min (length (joined parts)) stop) × (take after.count after.bits ≡ take longest (joined parts))
  -- "Asking gives exactly what reading the whole would give, in the same order of refusals, for every way of cutting, and leaves a fresh
  -- state, after a refusal too", of bursts longer than the longest too
  pub parts_whole : (parts : List (List ℕ)) (before : State) → TookAll parts fresh before → (old new : List ℕ) (answer : Slot)
      → ReadParts before fresh old new answer ↔ ReadSlot (joined parts) old new answer
  pub parts_cutting : (burst old old' new new' : List ℕ) (answer answer' : Slot) → length old ≡ length old' → CameInParts burst old new answer → CameInParts burst old' new' answer'
      → (answer ≡ answer') × (take answer.count new ≡ take answer.count new')
  pub parts-fresh : (before after : State) (old new : List ℕ) (answer : Slot) → ReadParts before after old new answer → after ≡ fresh
  -- "A state whose count lies above 1,505 answers as one of 1,505 does", whatever bytes are kept; and a part makes it one
  pub parts_forged : (count : ℕ) (bits : List ℕ) → length bits ≡ longest → stop < count → (after : State) (old new : List ℕ) (answer : Slot)
      → ReadParts (state count bits) after old new answer ↔ ReadParts (state stop bits) after old new answer
  pub parts_forged_on : (count : ℕ) (bits part : List ℕ) → stop < count → (after : State) → TookPart part (state count bits) after → after ≡ state stop bits
  -- "Messages are divided as document 01 says", with document 02's K1. Whatever a step answers lies inside the datagram
  pub step-inside : (datagram : List ℕ) (position : ℕ) (answer : Step) → Stepped datagram position answer → answer.start + answer.length ≤ length datagram
  -- a message is answered exactly where, behind 81s alone, one begins that is as long as it declares, at least 7, and ends inside the datagram
  pub message-found : (datagram : List ℕ) (position : ℕ) (answer : Step) → Stepped datagram position answer → (start total : ℕ)
      → ((answer ≡ message start total) × (0 < total)) ↔ (PassedOver datagram position start × Whole datagram start total)
  -- "finished": exactly where 81s and then zeros alone are left
  pub step-finished : (datagram : List ℕ) (position : ℕ) (answer : Step) → Stepped datagram position answer → (answer ≡ finished) ↔ NoneLeft datagram position
  -- 10: exactly where, behind 81s alone, a 0 stands, and behind it a byte other than 0
  pub step_spoilt : (datagram : List ℕ) (position : ℕ) (answer : Step) → Stepped datagram position answer
      → (answer ≡ stepRefused broken_fill) ↔ Behind datagram position (Spoilt datagram)
  -- 11, 9 and 12: exactly where, behind 81s alone, a message begins that tells this lie, with the message's place and the bytes that are
  -- missing. Every answer but 12 has none missing, and the place of a lie is inside the datagram
  pub step-lie : (datagram : List ℕ) (position : ℕ) (answer : Step) → Stepped datagram position answer → (number start missing : ℕ) → is_lie number ≡ true
      → (answer ≡ lie number start missing) ↔ (PassedOver datagram position start × LieAt datagram start number missing)
  pub step_missing : (datagram : List ℕ) (position : ℕ) (answer : Step) → Stepped datagram position answer → (answer.status ≡ message_past_end → ⊥) → answer.missing ≡ 0
  pub lie-inside : (datagram : List ℕ) (position : ℕ) (answer : Step) → Stepped datagram position answer → is_lie answer.status ≡ true → answer.start < length datagram
  -- the lie of last spring: any burst of one slot whose message, also behind 81s, declares 900 bytes
  pub lie-refused : (datagram : List ℕ) → length datagram ≡ bytes_held (row_of 5) → (position start : ℕ) → PassedOver datagram position start → Begins datagram start
      → byte_at datagram (start + 1) * 256 + byte_at datagram (start + 2) ≡ 900 → (answer : Step) → Stepped datagram position answer → answer ≡ lie message_past_end start (start + 868)
  -- stepping from 0, each next step at start + length, ends, and with one outcome
  pub walk_ends : (datagram : List ℕ) → Walks datagram 0 (walk datagram).found (walk datagram).last
  pub walk_determined : (datagram : List ℕ) (found found' : List Step) (last last' : Step) → Walks datagram 0 found last → Walks datagram 0 found' last'
      → (found ≡ found') × (last ≡ last')
  -- the messages found lie in order from 0, with only 81s before and between them, to a place where a step is finished or refused; there is
  -- at most one to seven bytes
  pub walk-tiles : (datagram : List ℕ) (found : List Step) (last : Step) → Walks datagram 0 found last → Tiled datagram 0 found last
  pub walk-count : (datagram : List ℕ) (found : List Step) (last : Step) → Walks datagram 0 found last → 7 * length found ≤ length datagram
  -- if it ends in "finished", behind the last message are 81s and then zeros
  pub walk_fill : (datagram : List ℕ) (found : List Step) → Walks datagram 0 found finished → (end : ℕ) × Tiles datagram 0 found end × NoneLeft datagram end
  -- it ends in a lie exactly where such messages lead to the message that tells it, and names it
  pub walk-lie : (datagram : List ℕ) (found : List Step) (number start missing : ℕ) → is_lie number ≡ true
      → Walks datagram 0 found (lie number start missing) ↔ (Leads datagram 0 found start × LieAt datagram start number missing)
  -- the messages, the 81s before and between them and what is left behind are the datagram
  pub walk-bytes : (datagram : List ℕ) (found : List Step) (end : ℕ) → Tiles datagram 0 found end → bytes_of datagram 0 found ++ drop end datagram ≡ datagram
  -- document 02, K6: a message is laid, and zero fill, whenever the request can be met
  pub messages_written : (start type source : ℕ) (body old new : List ℕ) (answer : LaidBytes) → (type ≡ 0 → ⊥) → (type ≡ 81 → ⊥) → length body ≤ 65528 → start + total_of body ≤ length old
      → WroteMessage start type source body old new answer
      → (answer.status ≡ done) × (answer.count ≡ total_of body) × (take answer.count (drop start new) ≡ message_of type source body)
  pub zeros_written : (start : ℕ) (old new : List ℕ) (answer : LaidBytes) → start ≤ length old → ZeroFilled start old new answer
      → (answer.status ≡ done) × (start + answer.count ≡ length old) × (take answer.count (drop start new) ≡ replicate answer.count 0)
  -- what was laid steps back with its start and its length, and type, source and body can be read at their places
  pub message_stepped : (start type source : ℕ) (body old new : List ℕ) (answer : LaidBytes) → WroteMessage start type source body old new answer → answer.status ≡ done
      → (step : Step) → Stepped new start step → step ≡ message start answer.count
  pub message_places : (start type source : ℕ) (body old new : List ℕ) (answer : LaidBytes) → WroteMessage start type source body old new answer → answer.status ≡ done → source < 4294967296
      → (byte_at new start ≡ type) × (source_at new start ≡ source) × (take (length body) (drop (start + 7) new) ≡ body)
  -- "If the first is laid at 0, each next at the end of the last, and the rest zero-filled, stepping finds exactly those messages, in that
  -- order": every list of messages that fits can be laid so; the datagram is then their bytes and zeros; and stepping finds them, and is finished
  pub list-laid : (messages : List Message) → every is_message messages ≡ true → (old : List ℕ) → length (bytes_of_all messages) ≤ length old
      → (new : List ℕ) × LaidAll 0 messages old new (length (bytes_of_all messages))
  pub list-bytes : (messages : List Message) (old mid new : List ℕ) (end : ℕ) (answer : LaidBytes) → LaidAll 0 messages old mid end → ZeroFilled end mid new answer
      → new ≡ bytes_of_all messages ++ replicate answer.count 0
  pub list_stepped : (messages : List Message) (old mid new : List ℕ) (end : ℕ) (answer : LaidBytes) → LaidAll 0 messages old mid end → ZeroFilled end mid new answer
      → Walks new 0 (steps_of 0 messages) finished
  -- and where a step finds one, its bytes stand
  pub list_places : (messages : List Message) (old mid new : List ℕ) (end : ℕ) (answer : LaidBytes) → LaidAll 0 messages old mid end → ZeroFilled end mid new answer
      → map (λ step. take step.length (drop step.start new)) (steps_of 0 messages) ≡ map (λ m. message_of m.type m.source m.body) messages
