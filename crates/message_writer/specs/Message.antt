-- A message as it is written (document 02, K6; M.2092-1, Annex 4, 4.9): its type, its total length, its source, and its body, which are the
-- bytes after the source.
use Rattle.std.specs.Prelude.{Bool, ◌||◌, List, [], ◌∷◌, ◌++◌, ℕ, zero, suc, ◌+◌, ◌*◌, ◌/◌, ◌%◌, ◌^◌, length}
use Rattle.messages.specs.Fill.{is_fill, is_zero}
use Rattle.messages.specs.Places.{byte_at}

-- the n lowest bytes of a number, high byte first
unfoldable pub high_byte_first : ℕ → ℕ → List ℕ
high_byte_first zero w = []
high_byte_first (suc n) w = w / 256 ^ n % 256 ∷ high_byte_first n w

-- a type that can't be a message's: 0 or 81
abbrev pub is_no_type : ℕ → Bool
is_no_type type = is_zero type || is_fill type

-- the most bytes after the source
abbrev pub longest_body : ℕ
longest_body = 65528

-- the bytes of a message with such a body: one of type, two of length, four of source, and the body
abbrev pub total_of : List ℕ → ℕ
total_of body = 7 + length body

-- the message: its type, its total length in two bytes, its source in four, and its body
unfoldable pub message_of : ℕ → ℕ → List ℕ → List ℕ
message_of type source body = type ∷ high_byte_first 2 (total_of body) ++ high_byte_first 4 source ++ body

-- the source of the message at a place of a datagram: the four bytes after its length, high byte first
abbrev pub source_at : List ℕ → ℕ → ℕ
source_at datagram place =
    ((byte_at datagram (place + 3) * 256 + byte_at datagram (place + 4)) * 256 + byte_at datagram (place + 5)) * 256 + byte_at datagram (place + 6)
