use Rattle.std.proofs.Common.{sym, ◌∙◌, arith}
use Rattle.std.proofs.Math.Nat.{mod-eq-sub-mod}
use Rattle.interleaver.proofs.adding.reduced.Goals as goal

pub loop-rest-preserved : goal.loop-rest-preserved
loop-rest-preserved c = sym (mod-eq-sub-mod (omega arith)) ∙ c.loop-rest.invariant
