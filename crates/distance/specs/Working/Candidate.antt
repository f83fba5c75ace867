-- The one candidate for a row with at most one wrong bit: the row itself, or the flip that the register tells of.
use Rattle.std.specs.Prelude.{Bool, cond, List, ℕ, suc, ◌-◌, eqb, ltb, length}
use Rattle.std.proofs.Math.Option.{Option, none, some}
use Rattle.bits.specs.Row.{flip}
use Rattle.check32.specs.Check.{register}
use Rattle.check32.specs.Working.Marks.{bits_after}

-- how many bits come after the wrong one, and the place where it is
abbrev pub wrong_after : List Bool → ℕ
wrong_after row = bits_after (register row) (length row)

abbrev pub wrong_place : List Bool → ℕ
wrong_place row = length row - suc (wrong_after row)

-- the row if it closes, else the one flip of it that closes, if any
unfoldable pub candidate : List Bool → Option (List Bool)
candidate row =
    cond (eqb (register row) 0) (some row)
    (cond (ltb (wrong_after row) (length row)) (some (flip (wrong_place row) row)) none)
