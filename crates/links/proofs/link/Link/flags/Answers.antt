-- The clocks of the pattern and of the tail are found again in their arrays. Assumes nothing.
use Rattle.std.proofs.Common.{◌∙◌, arith}
use Rattle.links.specs.Patterns.{pattern_of, tail_of}
use Rattle.links.proofs.GoodFlags.{pattern, tail, at_most_twice}
use Rattle.links.proofs.Padded.{take-padded, padded-full}
use Rattle.links.proofs.link.Link.flags.Goals as goal

pub invariant_of-result : goal.invariant_of-result
invariant_of-result c =
    let good = pattern c.args.self.row c.args.self.good in
    record {
      begins = rw c.clocks.ensures good.some;
      few = rw c.clocks.ensures good.few;
      twice = rw (c.pattern.ensures, c.clocks.ensures, take-padded 10 (pattern_of c.args.self.row.pattern)) (at_most_twice _ good);
    }

pub returns : goal.returns
returns c =
    let row = c.args.self.row in (
      rw (c.pattern.ensures, c.clocks.ensures) (take-padded 10 (pattern_of row.pattern)),
      c.tail.ensures ∙ padded-full 6 (tail_of row.tail) (omega (arith, (tail row c.args.self.good).six)),
    )
