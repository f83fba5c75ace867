-- The check by whole bytes: what each byte alone leaves in the register.
use Rattle.std.specs.Prelude.{List, [], ◌∷◌, ◌++◌, ℕ, zero, suc, ◌+◌}
use Rattle.bits.specs.Row.{high_first}
use Rattle.check32.specs.Check.{register_from}

-- the register, from zero, after the eight bits of a byte
abbrev pub byte_mark : ℕ → ℕ
byte_mark n = register_from 0 (high_first 8 n)

-- of some bytes from n on, each `apart` from the one before
unfoldable pub marks_from : ℕ → ℕ → ℕ → List ℕ
marks_from apart n zero = []
marks_from apart n (suc left) = byte_mark n ∷ marks_from apart (n + apart) left

-- of the bytes below 16, and then of the multiples of 16
unfoldable pub byte_marks : List ℕ
byte_marks = marks_from 1 0 16 ++ marks_from 16 0 16
