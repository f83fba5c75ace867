-- A byte leaves in the register what its two halves leave, added: one test that antt computes over the 256 bytes.
-- Assumes nothing.
use mathlib.Core.Path.{◌≡◌}
use mathlib.Core.Bool.{Bool}
use Prim.Native.Nat.{ℕ, ◌+◌, ◌/◌, ◌%◌, ◌<◌}
use lib.Bits.{bit_xor}
use lib.Dec.{eqb, eqb→eq}
use lib.ListN.{get_or}
use Rattle.lists.proofs.Line.{line}
use Rattle.bits.specs.Row.{high_first}
use Rattle.bits.specs.Xor.{◌⊕◌}
use Rattle.check32.specs.Working.Bytes.{byte_mark, marks_from, byte_marks}
use Rattle.check32.specs.Check.{times_x, step, register_from}

-- the entries of both halves, the low ones first in the table
abbrev pub halves : ℕ → ℕ
halves n = bit_xor (get_or byte_marks (n / 16 + 16) 0) (get_or byte_marks (n % 16) 0)

abbrev right : ℕ → Bool
right n = eqb (halves n) (byte_mark n)

pub halves_right : (n : ℕ) → n < 256 → halves n ≡ byte_mark n
unfolding byte_marks marks_from high_first ◌⊕◌ times_x step register_from
halves_right n h = eqb→eq (halves n) (byte_mark n) (line 256 right tt n h)
