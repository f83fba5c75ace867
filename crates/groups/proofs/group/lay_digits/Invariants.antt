-- Place by place: what stands at the places from i on is left to lay. Assumes nothing.
use Rattle.std.proofs.Common.{map, ◌+◌, drop}
use Rattle.lists.specs.Working.Laying.{Laying}
use Rattle.groups.specs.Working.Group.{digit}
use Rattle.groups.proofs.group.lay_digits.Given as goal

abbrev pub invariant-loop-i : goal.invariant-loop-i
invariant-loop-i l = Laying l.initial.out l.at (map (digit l.all) l.places) l.out (l.at + l.i) (map (digit l.all) (drop l.i l.places))
