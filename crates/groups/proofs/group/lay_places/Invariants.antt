-- Clock by clock: the places that pass from clock c on are left to lay. Assumes nothing.
use Rattle.std.proofs.Common.{◌-◌}
use Rattle.lists.specs.Working.Laying.{Laying}
use Rattle.links.specs.Working.Clocks.{clocks_of}
use Rattle.groups.specs.Working.Together.{passed_from}
use Rattle.groups.specs.Working.Group.{places_from}
use Rattle.groups.proofs.group.lay_places.Given as goal

abbrev pub invariant-loop-c : goal.invariant-loop-c
invariant-loop-c l =
    Laying l.initial.places 0 (passed_from (clocks_of l.fn.flags) 0 (places_from 0 24)) l.places l.to (passed_from (clocks_of l.fn.flags) l.c (places_from l.c (24 - l.c)))
