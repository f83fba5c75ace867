-- The number that the bits so far make.
use Rattle.std.proofs.Common.{◌≡◌, map, take}
use Rattle.bits.specs.Row.{number}
use Rattle.bits.proofs.number_of.Given as goal

abbrev pub invariant-loop-cell : goal.invariant-loop-cell
invariant-loop-cell g l = l.word ≡ number (map g.B.Bit.value (take l.cell-index l.row))
