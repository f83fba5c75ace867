-- The digits of the number above those that are still to lay stand in the row.
use Rattle.std.proofs.Common.{◌≡◌, ◌+◌, ◌/◌, ◌^◌, map, take, length}
use Rattle.bits.specs.Row.{high_first}
use Rattle.bits.proofs.lay_bits.Given as goal

abbrev pub invariant-loop-cell : goal.invariant-loop-cell
invariant-loop-cell g l =
    (l.behind + l.cell-index ≡ length l.cell-items) × (take l.cell-index l.cell-items ≡ map g.B.Bit.holding (high_first l.cell-index (l.word / 2 ^ l.behind)))
