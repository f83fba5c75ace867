-- Pair by pair.
use Rattle.std.proofs.Common.{◌≡◌, ◌%◌, ◌≤◌, length}
use Rattle.interleaver.proofs.Laid.{Walking}
use Rattle.interleaver.proofs.lay_row.Given as goal

abbrev pub invariant-loop-s : goal.invariant-loop-s
invariant-loop-s l = (l.s ≤ length l.row) × (l.s % 2 ≡ 0) × Walking l.block.link.row l.u l.start l.x l.s l.row
