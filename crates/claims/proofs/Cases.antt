-- The cases of the documents hold: antt computes the words and the places where they differ, and reading is exact.
-- Assumes nothing.
use mathlib.Core.Path.{◌≡◌, refl, sym, ap, ◌∙◌}
use mathlib.Core.Bool.{Bool, true}
use mathlib.Core.List.{List, [], ◌∷◌, ◌++◌, map, append-nil}
use Prim.Native.Nat.{ℕ, ◌+◌, ◌*◌, ◌<◌, ◌≤◌}
use native.Mathlib.Omega.{arith}
use lib.Dec.{lit<, lit≤}
use lib.ListN.{length, replicate, length-map, length-append}
use lib.Seq.{take_all, take_at}
use Rattle.answers.specs.Numbers.{done, not_offered, wrong_length, no_room, past_end, no_type, long_body}
use Rattle.answers.specs.Outcome.{Outcome, refusal}
use Rattle.answers.proofs.Task.{write_unoffered, write-long}
use Rattle.lists.specs.Every.{every}
use Rattle.lists.specs.Over.{over}
use Rattle.lists.proofs.Over.{over-all}
use Rattle.lists.proofs.Parts.{map-take}
use Rattle.bits.specs.Bits.{byte}
use Rattle.bits.specs.Row.{high_first, differences}
use Rattle.blocks.specs.Block.{block_of}
use Rattle.blocks.specs.Calls.{block_task, write_block}
use Rattle.blocks.proofs.Calls.{read_length}
use Rattle.links.specs.Patterns.{patterns, tails, clocks_in, flags_at, total, pattern_of, tail_of}
use Rattle.links.specs.Rows.{rows, place_in, offered, row_of}
use Rattle.links.specs.Sizes.{open_bits, bytes_held, passed_on, tail_bits, image_length}
use Rattle.messages.specs.Step.{zeros_at, message_at, step_at, step_message}
use Rattle.message_writer.specs.Message.{high_byte_first, message_of}
use Rattle.message_writer.specs.Calls.{laying, write_message, zero_fill, refusal as laid-refused}
use Rattle.message_writer.proofs.Ways.{write-long as write-long-body}
use Rattle.slots.specs.Burst.{doubled, symbols, training, head_length, head_part, block_part, is_slot_link, head_of, burst_of}
use Rattle.slots.specs.declared.Slot.{Slot}
use Rattle.slots.specs.Near.{Near}
use Rattle.slots.specs.Head.{refused_head, read_head}
use Rattle.slots.specs.Calls.{slot_task, write_slot, both, read_slot, refused as slot-refused}
use Rattle.slots.proofs.Answered.{rest-joined, burst-answered}
use Rattle.slots.proofs.Calls.{word-no-slot, head-word}
use Rattle.slots.proofs.Links.{slot-offered}
use Rattle.slots.proofs.Parts.{length-head-bits, near_head, block_part-head_of}
use Rattle.slots.proofs.WaysOfReading.{head-refuses}
use Rattle.slots.proofs.Writing.{long-burst}
use Rattle.parts.specs.State.{longest, stop, state, blank, fresh, taken, heard}
use Rattle.parts.proofs.Growing.{cut}
use Rattle.parts.proofs.Hearing.{longest_7, short, heard-long}
use Rattle.parts.proofs.Holding.{fresh_holds}
use Rattle.turbo.proofs.Cases.{p7_y0, p7_y1, p8, p9}
use Rattle.words.specs.Word.{generator, with_rows, word_of, word_bits}
use Rattle.words.specs.Calls.{found}
use Rattle.words.proofs.Exact.{near_found}
use Rattle.claims.specs.Cases.{Cases}
use Rattle.claims.proofs.Noisy.{seven_wrong, eight_wrong, nine_wrong, good-behind, noisy-answered, far_training, far_word, other-link, no_bit-first}

held-by-12 : bytes_held (row_of 12) ≡ 117
unfolding rows place_in row_of
held-by-12 = refl

offered-12 : offered 12 ≡ true
unfolding rows place_in offered
offered-12 = refl

too_long : (datagram : List ℕ) (room : ℕ) → length datagram ≡ 118 → write_block 12 datagram room ≡ refusal wrong_length
too_long datagram room l = write-long (block_task 12 datagram) room offered-12 (omega (arith, held-by-12))

-- N of the slot links
images : (image_length (row_of 5) ≡ 394) × (image_length (row_of 6) ≡ 906) × (image_length (row_of 7) ≡ 1418)
unfolding rows place_in row_of patterns tails clocks_in flags_at total passed_on tail_bits image_length
images = (refl, refl, refl)

-- the head of 7 is read, and what stands behind it is not as long as 7's images
other_7 : (rest : List Bool) (room : ℕ) → (length rest ≡ 1418 → ⊥) → read_slot (map byte (head_of 7 ++ rest)) room ≡ slot-refused wrong_length
unfolding both is_slot_link
other_7 rest room other =
    rest-joined (head_of 7 ++ rest) 7 0 (near_head 7 rest refl) room
    (read_length 7 (map byte (block_part (head_of 7 ++ rest))) room (slot-offered 7 refl)
    (λ e. other (sym (ap length (block_part-head_of 7 rest)) ∙ sym (length-map (block_part (head_of 7 ++ rest)) byte) ∙ e ∙ images.2)))

-- ---- K2
empty : (taken fresh [] ≡ fresh) × ((room : ℕ) → read_slot (heard fresh) room ≡ slot-refused wrong_length)
unfolding over blank taken heard read_head read_slot
empty = (refl, λ room. refl)

counts : map (λ n. (taken fresh (replicate n 1)).count) (0 ∷ 1 ∷ 1503 ∷ 1504 ∷ 1505 ∷ 1600 ∷ []) ≡ 0 ∷ 1 ∷ 1503 ∷ 1504 ∷ 1505 ∷ 1505 ∷ []
unfolding taken
counts = refl

raw : heard (taken (taken fresh (2 ∷ 255 ∷ [])) (1 ∷ [])) ≡ 2 ∷ 255 ∷ 1 ∷ []
unfolding over blank taken heard
raw = refl

-- a burst of link 7 is as long as what is kept
module _ (datagram : List ℕ) (fits : length datagram ≤ 128) where
  abbrev burst : List ℕ
  burst = map byte (burst_of 7 datagram)

  fits_7 : length datagram ≤ bytes_held (row_of 7)
  unfolding rows place_in row_of
  fits_7 = fits

  long_7 : length burst ≡ longest
  unfolding is_slot_link
  long_7 = long-burst 7 refl datagram fits_7 ∙ longest_7

  kept : (x : ℕ) (more : List ℕ) → taken fresh (burst ++ x ∷ more) ≡ state stop burst
  kept x more =
      let came = burst ++ x ∷ more in
      let size : longest < length came = omega (arith, length-append burst (x ∷ more), long_7) in
      let laid = ap (λ (p : List ℕ). over 0 p blank) (take_at burst (x ∷ more) longest long_7) ∙ over-all burst blank (long_7 ∙ sym fresh_holds.long) in
      sym (cut 0 blank came (omega arith) size) ∙ ap (λ (bits : List ℕ). state stop bits) laid

  -- with a count of 1,504 it is a good one
  near_7 : Near (burst_of 7 datagram) 7 0 (block_of (row_of 7) datagram)
  unfolding is_slot_link burst_of
  near_7 = good-behind 7 refl datagram fits_7 (head_of 7) (length-head-bits 7) (near_head 7 _ refl)

  read_7 : (room : ℕ) → 128 ≤ room → (read_slot (heard (state longest burst)) room).answer.status ≡ done
  unfolding rows place_in row_of
  read_7 room enough =
      let whole = short longest burst (omega (arith, long_7)) ∙ take_all longest burst (omega (arith, long_7)) in
      ap (λ (came : List ℕ). (read_slot came room).answer.status) whole
      ∙ ap (λ (outcome : Outcome Slot). outcome.answer.status) (burst-answered (burst_of 7 datagram) 7 0 _ near_7 room enough)

  -- what is longer reads as the head of 7 alone
  head_7 : head_part burst ≡ map byte (head_of 7 ++ [])
  unfolding burst_of
  head_7 =
      sym (map-take byte head_length (burst_of 7 datagram))
      ∙ ap (map byte) (take_at (head_of 7) _ head_length (length-head-bits 7) ∙ sym (append-nil (head_of 7)))

  longer : (room : ℕ) → read_slot (heard (state stop burst)) room ≡ slot-refused wrong_length
  longer room =
      heard-long stop burst long_7 (omega arith) room
      ∙ ap (λ (came : List ℕ). read_slot came room) head_7
      ∙ other_7 [] room (λ e. omega (arith, e))

-- ---- K4
lengths_4 : ((row_of 4).k ≡ 158 * 6 + 4) × (length (pattern_of (row_of 4).pattern) ≡ 6) × (passed_on (pattern_of (row_of 4).pattern) 0 (row_of 4).k ≡ 1269)
    × (tail_bits (tail_of (row_of 4).tail) ≡ 12) × (image_length (row_of 4) ≡ 1269 + 12)
unfolding rows place_in row_of patterns tails clocks_in flags_at total passed_on tail_bits image_length
lengths_4 = (refl, refl, refl, refl, refl)

held-by_4 : (bytes_held (row_of 4) ≡ 115) × (open_bits (row_of 4) ≡ 115 * 8)
unfolding rows place_in row_of
held-by_4 = (refl, refl)

offered_4 : offered 4 ≡ true
unfolding rows place_in offered
offered_4 = refl

no-slot_written : (datagram : List ℕ) (room : ℕ) → write_slot 4 datagram room ≡ refusal not_offered
unfolding is_slot_link
no-slot_written datagram room = write_unoffered (slot_task 4 datagram) room refl

-- the head of 4 is good, but for its link
module _ (rest : List Bool) where
  abbrev came_4 : List ℕ
  came_4 = map byte (head_of 4 ++ rest)

  head_4 : read_head came_4 ≡ refused_head not_offered
  unfolding high_first doubled symbols training generator with_rows word_of head_of every differences is_slot_link
  head_4 =
      let long : head_length ≤ length came_4 = omega (arith, length-map (head_of 4 ++ rest) byte, length-append (head_of 4) rest) in
      let word = near_found (word_bits 4) refl 4 0 (record { known = lit< tt; count = refl; within = lit≤ tt }) in
      head-word came_4 long refl word refl (lit≤ tt) ∙ word-no-slot (found 4 0) 0 refl refl

  no-slot-read : (room : ℕ) → read_slot came_4 room ≡ slot-refused not_offered
  no-slot-read room = head-refuses came_4 room not_offered (λ z. omega (arith, z)) head_4

-- ---- K6
laid_in : (write_message 3 93 0x01020304 (111 ∷ 107 ∷ []) 20 ≡ laying (93 ∷ 0 ∷ 9 ∷ 1 ∷ 2 ∷ 3 ∷ 4 ∷ 111 ∷ 107 ∷ [])) × (write_message 0 74 1 [] 7 ≡ laying (74 ∷ 0 ∷ 7 ∷ 0 ∷ 0 ∷ 0 ∷ 1 ∷ []))
unfolding write_message message_of high_byte_first
laid_in = (refl, refl)

starts : (write_message 9 93 1 [] 8 ≡ laid-refused past_end) × (write_message 8 93 1 [] 8 ≡ laid-refused no_room) × (write_message 8 0 1 [] 8 ≡ laid-refused no_type) × (write_message 8 81 1 [] 8 ≡ laid-refused no_type)
unfolding write_message
starts = (refl, refl, refl, refl)

longest-message : (body : List ℕ) → length body ≡ 65528
    → (write_message 2 93 1 body 65537 ≡ laying (93 ∷ 255 ∷ 255 ∷ 0 ∷ 0 ∷ 0 ∷ 1 ∷ body)) × (write_message 2 93 1 body 65536 ≡ laid-refused no_room)
unfolding write_message message_of high_byte_first
longest-message body e = (rw e, rw e)

too-long-first : (body : List ℕ) → length body ≡ 65529 → ((room : ℕ) → write_message 0 93 1 body room ≡ laid-refused long_body)
    × (write_message 0 0 1 body 0 ≡ laid-refused no_type) × (write_message 1 0 1 body 0 ≡ laid-refused past_end)
unfolding write_message
too-long-first body e = (λ room. write-long-body 0 93 1 body room (omega arith) refl (omega (arith, e)), refl, refl)

zero_filled_lem : (zero_fill 5 8 ≡ laying (0 ∷ 0 ∷ 0 ∷ [])) × (zero_fill 8 8 ≡ laying []) × (zero_fill 9 8 ≡ laid-refused past_end)
unfolding zero_fill
zero_filled_lem = (refl, refl, refl)

pub cases : Cases
unfolding generator with_rows word_of every zeros_at message_at step_at step_message
cases = record { P1 = refl; P2 = refl; P3 = refl; P4 = seven_wrong; P5 = eight_wrong; P6 = nine_wrong; P7 = (p7_y0, p7_y1); P8 = p8; P9 = p9; P10 = (held-by-12, too_long); P11 = (refl, refl, refl); P12 = (refl, refl, refl); k1_spoilt = (refl, refl, refl); k1_ends = (refl, refl, refl, refl); k1_passed = (refl, refl, refl); k2_empty = empty; k2_counts = counts; k2_raw = raw; k2_longer = λ datagram fits x more. (kept datagram fits x more, longer datagram fits, read_7 datagram fits); k3_order = (refl, refl, refl); k3_missing = (refl, refl); k4_lengths = lengths_4; k4_held = held-by_4; k4_blocks_only = (offered_4, no-slot_written, no-slot-read); k6_laid = laid_in; k6_start = starts; k6_longest = longest-message; k6_order = too-long-first; k6_fill = zero_filled_lem; k7_answered = noisy-answered; k7_order = λ rest room. ((far_training rest room).0, (far_training rest room).1, far_word rest room, other-link rest room, no_bit-first rest room); short_7 = λ rest room size. other_7 rest room (λ e. omega (arith, size, e)); burst_lengths = rw (images.0, images.1, images.2) }
