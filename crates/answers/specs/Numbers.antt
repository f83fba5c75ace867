-- The numbers a caller gets back (document 01, the table of that name, as document 02 amends it).
use Rattle.std.specs.Prelude.{ℕ}

abbrev pub done : ℕ
done = 0

-- link not offered; number above 63 for a link word; slot burst not of link 5, 6, 7
abbrev pub not_offered : ℕ
not_offered = 1

-- datagram longer than the link holds; link word, block or slot burst of the wrong length
abbrev pub wrong_length : ℕ
wrong_length = 2

-- output buffer too short
abbrev pub no_room : ℕ
no_room = 3

-- a byte neither 0 nor 1
abbrev pub no_bit : ℕ
no_bit = 4

-- training differs in nine or more bits (document 02, K7)
abbrev pub no_training : ℕ
no_training = 5

-- no code word within seven
abbrev pub no_word : ℕ
no_word = 6

-- no valid block's image within one
abbrev pub no_block : ℕ
no_block = 7

-- position or start past the end
abbrev pub past_end : ℕ
past_end = 8

-- a message: length below 7 (document 02, K3)
abbrev pub small_length : ℕ
small_length = 9

-- a byte other than 0 after a 0 (document 02, K1)
abbrev pub broken_fill : ℕ
broken_fill = 10

-- a message: fewer than 3 bytes left (document 02, K3)
abbrev pub few_left : ℕ
few_left = 11

-- a message: past the end (document 02, K3)
abbrev pub message_past_end : ℕ
message_past_end = 12

-- a type 0 or 81 for a message (document 02, K6)
abbrev pub no_type : ℕ
no_type = 13

-- more than 65,528 bytes after the source (document 02, K6)
abbrev pub long_body : ℕ
long_body = 14
