-- A pattern has as many clocks as its period.
-- Assumes nothing.
use mathlib.Core.Path.{◌≡◌}
use lib.ListN.{length}
use lib.Seq.{length-take-le}
use Rattle.links.specs.declared.flags.Flags.{Flags}
use Rattle.links.specs.Working.Clocks.{clocks_of}

pub length-clocks : (flags : Flags) → length flags.pattern ≡ 10 → length (clocks_of flags) ≡ flags.period
length-clocks flags long = length-take-le flags.period flags.pattern (rw long flags.few)
