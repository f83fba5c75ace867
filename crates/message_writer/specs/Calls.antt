-- What the calls that lay messages and zero fill answer (document 02, K6).
use Rattle.std.specs.Prelude.{cond, List, [], ℕ, ◌+◌, ◌-◌, ltb, length, replicate}
use Rattle.answers.specs.Numbers.{done, no_room, past_end, no_type, long_body}
use Rattle.answers.specs.Outcome.{Outcome}
use Rattle.message_writer.specs.declared.Laid.{Laid}
use Rattle.message_writer.specs.Message.{is_no_type, longest_body, total_of, message_of}

-- a refusal: the number, and 0 for the count
abbrev pub refused : ℕ → Laid
refused number = record { status = number; count = 0 }

-- done: the exact count
abbrev pub laid : ℕ → Laid
laid count = record { status = done; count = count }

-- a call that refuses, and one that lays bytes
abbrev pub refusal : ℕ → Outcome Laid
refusal number = record { answer = refused number; bytes = [] }

abbrev pub laying : List ℕ → Outcome Laid
laying bytes = record { answer = laid (length bytes); bytes = bytes }

-- a message laid from a start on in a buffer of `room` bytes, in the order 8, 13, 14, 3
unfoldable pub write_message : ℕ → ℕ → ℕ → List ℕ → ℕ → Outcome Laid
write_message start type source body room =
    cond (ltb room start) (refusal past_end)
    (cond (is_no_type type) (refusal no_type)
    (cond (ltb longest_body (length body)) (refusal long_body)
    (cond (ltb room (start + total_of body)) (refusal no_room)
    (laying (message_of type source body)))))

-- zeros from a start to the end
unfoldable pub zero_fill : ℕ → ℕ → Outcome Laid
zero_fill start room = cond (ltb room start) (refusal past_end) (laying (replicate (room - start) 0))
