-- The cases of document 01, "Cases on either side", and of document 02's requests, as a single list under one claim, of the definitions that the contracts cite.
use Rattle.std.specs.Prelude.{◌≡◌, Bool, true, false, not, List, [], ◌∷◌, ◌++◌, map, ℕ, zero, suc, ◌+◌, ◌*◌, ◌≤◌, length, take, drop, replicate}
use Rattle.answers.specs.Numbers.{done, not_offered, wrong_length, no_room, no_bit, no_training, no_word, past_end, small_length, broken_fill, few_left, message_past_end, no_type, long_body}
use Rattle.answers.specs.Outcome.{refusal}
use Rattle.bits.specs.Bits.{byte}
use Rattle.blocks.specs.Block.{block_of, image_of}
use Rattle.blocks.specs.Calls.{write_block}
use Rattle.links.specs.Patterns.{flags, pattern_of, tail_of}
use Rattle.links.specs.Rows.{offered, row_of}
use Rattle.links.specs.Sizes.{open_bits, bytes_held, passed_on, tail_bits, image_length}
use Rattle.messages.specs.Step.{step_message, finished, message, lie, refused as step-refused}
use Rattle.message_writer.specs.Calls.{laying, write_message, zero_fill, refusal as laid-refused}
use Rattle.parts.specs.State.{stop, state, fresh, taken, heard}
use Rattle.slots.specs.Burst.{training, head_of, burst_of, burst_length}
use Rattle.slots.specs.Calls.{write_slot, read_slot, refused as slot-refused}
use Rattle.turbo.specs.Encoder.{start, next, y0, y1}
use Rattle.turbo.specs.Interleaver.{position}
use Rattle.turbo.specs.Coded.{ending_of}
use Rattle.turbo.specs.Outputs.{outputs}
use Rattle.words.specs.Word.{word_of, word_bits}
use Rattle.words.specs.Calls.{read_word, refused, found}

-- a row with its first n bits inverted
abbrev pub first_inverted : ℕ → List Bool → List Bool
first_inverted n row = map not (take n row) ++ drop n row

-- a row with the first n of the places inverted where it differs from another
abbrev pub inverted : ℕ → List Bool → List Bool → List Bool
inverted n [] other = []
inverted n (x ∷ row) [] = x ∷ row
inverted zero (x ∷ row) (y ∷ other) = x ∷ row
inverted (suc n) (true ∷ row) (true ∷ other) = true ∷ inverted (suc n) row other
inverted (suc n) (true ∷ row) (false ∷ other) = false ∷ inverted n row other
inverted (suc n) (false ∷ row) (true ∷ other) = true ∷ inverted n row other
inverted (suc n) (false ∷ row) (false ∷ other) = false ∷ inverted (suc n) row other

-- the head of a link with the first bits of its training and of its word inverted, so many of each
abbrev pub noisy : ℕ → ℕ → ℕ → List Bool
noisy inTraining in_word link = first_inverted inTraining training ++ first_inverted in_word (word_bits link)

-- a datagram of eight bytes whose message declares a length
abbrev pub declaring : ℕ → List ℕ
declaring n = 74 ∷ 0 ∷ n ∷ 0 ∷ 0 ∷ 0 ∷ 1 ∷ 81 ∷ []

pub record Cases : Type 0 where
  -- the word of 0 is the scrambling word
  pub P1 : word_of 0 ≡ 0b11000010111000101000111001001111
  pub P2 : word_of 5 ≡ 0b11010101111011010111111010111111
  pub P3 : word_of 63 ≡ 0b00111101000111010111000110110000
  -- the word of 5 with its first seven bits inverted reads 5, with eight it is refused
  pub P4 : read_word (map byte (first_inverted 7 (word_bits 5))) ≡ found 5 7
  pub P5 : read_word (map byte (first_inverted 8 (word_bits 5))) ≡ refused no_word
  -- the word of 0 with nine of the places inverted where it differs from the word of 1
  pub P6 : read_word (map byte (inverted 9 (word_bits 0) (word_bits 1))) ≡ found 1 7
  -- input 1 and then zeros: Y0 and Y1
  pub P7 : (map byte (outputs y0 start (true ∷ replicate 7 false)) ≡ 1 ∷ 1 ∷ 1 ∷ 1 ∷ 0 ∷ 0 ∷ 1 ∷ 0 ∷ []) × (map byte (outputs y1 start (true ∷ replicate 7 false)) ≡ 1 ∷ 1 ∷ 0 ∷ 1 ∷ 1 ∷ 1 ∷ 0 ∷ 0 ∷ [])
  -- the ending straight after a single 1: X Y0 Y1 of its three clocks
  pub P8 : map byte (ending_of false (replicate 3 (flags 1 1 1 0 0 0)) (next start true)) ≡ 0 ∷ 1 ∷ 1 ∷ 1 ∷ 0 ∷ 1 ∷ 1 ∷ 1 ∷ 1 ∷ []
  -- link 20: π of 1 to 4, of 95 and of 96
  pub P9 : map (position (row_of 20)) (1 ∷ 2 ∷ 3 ∷ 4 ∷ 95 ∷ 96 ∷ []) ≡ 2 ∷ 43 ∷ 76 ∷ 21 ∷ 24 ∷ 65 ∷ []
  -- link 12 holds 117 bytes, and 118 are refused, whatever they are and however large the buffer
  pub P10 : (bytes_held (row_of 12) ≡ 117) × ((datagram : List ℕ) (room : ℕ) → length datagram ≡ 118 → write_block 12 datagram room ≡ refusal wrong_length)
  -- a message of 7 and a byte of fill, from 0, from 7 and from 9
  pub P11 : (step_message (declaring 7) 0 ≡ message 0 7) × (step_message (declaring 7) 7 ≡ finished) × (step_message (declaring 7) 9 ≡ step-refused past_end)
  -- the same with length 8, and, as document 02's K3 amends it, with 9 or 6
  pub P12 : (step_message (declaring 8) 0 ≡ message 0 8) × (step_message (declaring 9) 0 ≡ lie message_past_end 0 1) × (step_message (declaring 6) 0 ≡ lie small_length 0 0)
  -- document 02, K1: 81 0 81, formerly finished; asked from 2; 0 81
  pub k1_spoilt : (step_message (81 ∷ 0 ∷ 81 ∷ []) 0 ≡ step-refused broken_fill) × (step_message (81 ∷ 0 ∷ 81 ∷ []) 2 ≡ finished) × (step_message (0 ∷ 81 ∷ []) 0 ≡ step-refused broken_fill)
  -- 81, 81 0 and the empty rest are finished, 81 1 is a message with fewer than 3 bytes
  pub k1_ends : (step_message (81 ∷ []) 0 ≡ finished) × (step_message (81 ∷ 0 ∷ []) 0 ≡ finished) × (step_message [] 0 ≡ finished) × (step_message (81 ∷ 1 ∷ []) 0 ≡ lie few_left 1 0)
  -- a message behind 81 81; the partner's two messages of 7, each padded with an 81
  pub k1_passed : (step_message (81 ∷ 81 ∷ declaring 7) 0 ≡ message 2 7) × (step_message (declaring 7 ++ declaring 7) 7 ≡ message 8 7) × (step_message (declaring 7 ++ declaring 7) 15 ≡ finished)
  -- document 02, K2: a part that is empty; one of 0, 1, 1,503, 1,504, 1,505 and 1,600 bytes
  pub k2_empty : (taken fresh [] ≡ fresh) × ((room : ℕ) → read_slot (heard fresh) room ≡ slot-refused wrong_length)
  pub k2_counts : map (λ n. (taken fresh (replicate n 1)).count) (0 ∷ 1 ∷ 1503 ∷ 1504 ∷ 1505 ∷ 1600 ∷ []) ≡ 0 ∷ 1 ∷ 1503 ∷ 1504 ∷ 1505 ∷ 1505 ∷ []
  -- bytes that are no bits are kept as they are, behind those that came before
  pub k2_raw : heard (taken (taken fresh (2 ∷ 255 ∷ [])) (1 ∷ [])) ≡ 2 ∷ 255 ∷ 1 ∷ []
  -- a burst of link 7 with more behind it is refused with 2, since the count goes one further than the longest burst: with a count of 1,504
  -- the same bytes would be a good burst
  pub k2_longer : (datagram : List ℕ) → length datagram ≤ 128 → (byte-behind : ℕ) (more : List ℕ) → let burst = map byte (burst_of 7 datagram) in
      (taken fresh (burst ++ byte-behind ∷ more) ≡ state stop burst) × ((room : ℕ) → read_slot (heard (state stop burst)) room ≡ slot-refused wrong_length)
      × ((room : ℕ) → 128 ≤ room → (read_slot (heard (state 1504 burst)) room).answer.status ≡ done)
  -- document 02, K3: 1 0 6 runs past the end too, but 9 comes first; 1 0 7; 1 0
  pub k3_order : (step_message (1 ∷ 0 ∷ 6 ∷ []) 0 ≡ lie small_length 0 0) × (step_message (1 ∷ 0 ∷ 7 ∷ []) 0 ≡ lie message_past_end 0 4) × (step_message (1 ∷ 0 ∷ []) 0 ≡ lie few_left 0 0)
  -- 65,535 declared in 3 bytes, behind 81 81; last spring's lie, 900 declared in 32 bytes
  pub k3_missing : (step_message (81 ∷ 81 ∷ 1 ∷ 255 ∷ 255 ∷ []) 0 ≡ lie message_past_end 2 65532) × (step_message (74 ∷ 3 ∷ 132 ∷ replicate 29 0) 0 ≡ lie message_past_end 0 868)
  -- document 02, K4: link 4's 952 clocks are 158 periods of six and four clocks of one more, which is cut there; they give 1,269 bits, and
  -- the tail, by Table 6, 12
  pub k4_lengths : ((row_of 4).k ≡ 158 * 6 + 4) × (length (pattern_of (row_of 4).pattern) ≡ 6) × (passed_on (pattern_of (row_of 4).pattern) 0 (row_of 4).k ≡ 1269)
      × (tail_bits (tail_of (row_of 4).tail) ≡ 12) × (image_length (row_of 4) ≡ 1269 + 12)
  -- it holds 115 bytes, with no bits over
  pub k4_held : (bytes_held (row_of 4) ≡ 115) × (open_bits (row_of 4) ≡ 115 * 8)
  -- it has blocks, and no slot bursts: these are refused with 1, in writing whatever the datagram is, in reading whatever stands behind its head
  pub k4_blocks_only : (offered 4 ≡ true) × ((datagram : List ℕ) (room : ℕ) → write_slot 4 datagram room ≡ refusal not_offered)
      × ((rest : List Bool) (room : ℕ) → read_slot (map byte (head_of 4 ++ rest)) room ≡ slot-refused not_offered)
  -- document 02, K6: a message of two bytes after the source, its length and its source high byte first; the shortest, of 7, in 7 bytes
  pub k6_laid : (write_message 3 93 0x01020304 (111 ∷ 107 ∷ []) 20 ≡ laying (93 ∷ 0 ∷ 9 ∷ 1 ∷ 2 ∷ 3 ∷ 4 ∷ 111 ∷ 107 ∷ [])) × (write_message 0 74 1 [] 7 ≡ laying (74 ∷ 0 ∷ 7 ∷ 0 ∷ 0 ∷ 0 ∷ 1 ∷ []))
  -- a start at the buffer's end is no 8: there is no room; a type 0 or 81 in the same place is 13
  pub k6_start : (write_message 9 93 1 [] 8 ≡ laid-refused past_end) × (write_message 8 93 1 [] 8 ≡ laid-refused no_room) × (write_message 8 0 1 [] 8 ≡ laid-refused no_type) × (write_message 8 81 1 [] 8 ≡ laid-refused no_type)
  -- 65,528 bytes after the source make a message of 65,535: it has room from 2 on in 65,537 bytes, and not in 65,536
  pub k6_longest : (body : List ℕ) → length body ≡ 65528
      → (write_message 2 93 1 body 65537 ≡ laying (93 ∷ 255 ∷ 255 ∷ 0 ∷ 0 ∷ 0 ∷ 1 ∷ body)) × (write_message 2 93 1 body 65536 ≡ laid-refused no_room)
  -- 65,529 are too many, with room and without; but a start past the end and a type 0 come first
  pub k6_order : (body : List ℕ) → length body ≡ 65529 → ((room : ℕ) → write_message 0 93 1 body room ≡ laid-refused long_body)
      × (write_message 0 0 1 body 0 ≡ laid-refused no_type) × (write_message 1 0 1 body 0 ≡ laid-refused past_end)
  -- zero fill of the last three bytes, of none, and past the end
  pub k6_fill : (zero_fill 5 8 ≡ laying (0 ∷ 0 ∷ 0 ∷ [])) × (zero_fill 8 8 ≡ laying []) × (zero_fill 9 8 ≡ laid-refused past_end)
  -- document 02, K7: one wrong bit of the training, and eight with seven of the word, are answered with these numbers
  pub k7_answered : (datagram : List ℕ) → length datagram ≤ 32 → (room : ℕ) → 32 ≤ room → let rest = image_of (row_of 5) (block_of (row_of 5) datagram) in
      ((read_slot (map byte (noisy 1 0 5 ++ rest)) room).answer ≡ record { status = done; count = 32; wrong = 0; link = 5; word_wrong = 0; training_wrong = 1 })
      × ((read_slot (map byte (noisy 8 7 5 ++ rest)) room).answer ≡ record { status = done; count = 32; wrong = 0; link = 5; word_wrong = 7; training_wrong = 8 })
  -- nine are refused, though they are bits of five symbols; with a word that is refused too, 5 comes first. With eight, the word decides:
  -- 6, and 1 for link 4's; a byte that is no bit is 4 before all of these
  pub k7_order : (rest : List Bool) (room : ℕ) → (read_slot (map byte (noisy 9 0 5 ++ rest)) room ≡ slot-refused no_training) × (read_slot (map byte (noisy 9 8 5 ++ rest)) room ≡ slot-refused no_training)
      × (read_slot (map byte (noisy 8 8 5 ++ rest)) room ≡ slot-refused no_word) × (read_slot (map byte (noisy 8 7 4 ++ rest)) room ≡ slot-refused not_offered)
      × (read_slot (map byte (take 85 (noisy 9 8 5)) ++ 2 ∷ map byte rest) room ≡ slot-refused no_bit)
  -- a slot burst of 480 bits under link 7's word
  pub short_7 : (rest : List Bool) (room : ℕ) → length rest ≡ 394 → read_slot (map byte (head_of 7 ++ rest)) room ≡ slot-refused wrong_length
  -- the lengths of slot bursts
  pub burst_lengths : map burst_length (5 ∷ 6 ∷ 7 ∷ []) ≡ 480 ∷ 992 ∷ 1504 ∷ []
