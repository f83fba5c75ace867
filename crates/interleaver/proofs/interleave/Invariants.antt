-- Row by row: those before the start's are laid.
use Rattle.std.proofs.Common.{◌≡◌, ◌-◌, ◌/◌, ◌≤◌, take}
use Rattle.turbo.specs.Interleaver.{interleaved_from}
use Rattle.interleaver.specs.Working.Starts.{start_of}
use Rattle.interleaver.proofs.interleave.Given as goal

abbrev pub invariant-loop-start : goal.invariant-loop-start
invariant-loop-start l = record {
  within : l.start.i ≤ l.link.row.k1 / 2;
  is : l.start ≡ start_of l.link.row l.start.i;
  laid : take l.start.place l.v ≡ interleaved_from l.link.row l.block.bits.now 1 l.start.place;
}

abbrev pub decreases-loop-start : goal.decreases-loop-start
decreases-loop-start l = l.link.row.k1 / 2 - l.start.i
