-- What a step through a datagram answers (document 01, "Messages in a datagram"; document 02, K1 and K3; M.2092-1, Annex 4, 4.9). It is told of
-- what is left of the datagram and of the position where that begins.
use Rattle.std.specs.Prelude.{Bool, cond, ◌||◌, List, [], ◌∷◌, ℕ, ◌+◌, ◌-◌, ◌*◌, eqb, ltb, length, get_or, drop}
use Rattle.answers.specs.Numbers.{done, past_end, small_length, broken_fill, few_left, message_past_end}
use Rattle.messages.specs.declared.Step.{Step}
use Rattle.messages.specs.Fill.{is_fill, is_zero, only_zeros}

-- a refusal that is no lie of a message: the number, and 0 for all else
abbrev pub refused : ℕ → Step
refused n = record { status = n; start = 0; length = 0; missing = 0 }

-- no message follows: number 0, and 0 for all else
abbrev pub finished : Step
finished = record { status = done; start = 0; length = 0; missing = 0 }

-- a message: where it starts, and its length
abbrev pub message : ℕ → ℕ → Step
message start n = record { status = done; start = start; length = n; missing = 0 }

-- a message that lies: the number of its lie, where it starts, and how many bytes are missing
abbrev pub lie : ℕ → ℕ → ℕ → Step
lie n start missing = record { status = n; start = start; length = 0; missing = missing }

-- the numbers of lies
abbrev pub is_lie : ℕ → Bool
is_lie n = eqb n few_left || eqb n small_length || eqb n message_past_end

-- the total length that a message declares: the two bytes after its type, high byte first
abbrev pub declared_length : List ℕ → ℕ
declared_length left = get_or left 1 0 * 256 + get_or left 2 0

-- where the zero fill begins, all must be 0
unfoldable pub zeros_at : List ℕ → Step
zeros_at left = cond (only_zeros left) finished (refused broken_fill)

-- where a message begins: three bytes for its type and length, a length of at least 7, and its end inside the datagram, tested in
-- this order. The bytes past the end are missing
unfoldable pub message_at : ℕ → List ℕ → Step
message_at position left =
    cond (ltb (length left) 3) (lie few_left position 0)
    (cond (ltb (declared_length left) 7) (lie small_length position 0)
    (cond (ltb (length left) (declared_length left)) (lie message_past_end position (declared_length left - length left))
    (message position (declared_length left))))

-- a step on what is left: a byte 81 is passed over alone, a byte 0 begins the zero fill, any other a message
unfoldable pub step_at : ℕ → List ℕ → Step
step_at position [] = finished
step_at position (b ∷ rest) =
    cond (is_fill b) (step_at (position + 1) rest)
    (cond (is_zero b) (zeros_at (b ∷ rest))
    (message_at position (b ∷ rest)))

-- a step from a place of a datagram
abbrev pub step_from : List ℕ → ℕ → Step
step_from datagram place = step_at place (drop place datagram)

-- a step from a position of a datagram, in the order 8, then 10, or 11, 9, 12
unfoldable pub step_message : List ℕ → ℕ → Step
step_message datagram position = cond (ltb (length datagram) position) (refused past_end) (step_from datagram position)
