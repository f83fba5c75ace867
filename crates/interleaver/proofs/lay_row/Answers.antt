-- Assumes nothing.
use Rattle.std.proofs.Common.{arith, rules, ◌≡◌, ◌+◌, ◌*◌, sym, ◌∙◌}
use lib.ListN.{length-set}
use lib.Seq.{take_all}
use Rattle.interleaver.proofs.Laid.{walk_begins, walk_pair}
use Rattle.interleaver.proofs.lay_row.Goals as goal

pub loop-s-init : goal.loop-s-init
loop-s-init c =
    let a = c.args in
    (omega arith, omega arith, walk_begins a.block.link.row a.block.link.good a.block.bits.now a.start c.requires.1 a.row.now)

pub loop-s-preserved : goal.loop-s-preserved
loop-s-preserved c =
    let b = c.args.block in
    let at = c.loop-s in
    (search rules, omega arith, walk_pair b.link.row b.link.good b.bits.now c.args.start c.requires.1 at.invariant.2 (omega arith) (omega arith) (omega arith) _ _ (cc) (cc))

pub returns-2 : goal.returns-2
returns-2 c =
    let b = c.args.block in
    let at = c.loop-s in
    let more = walk_pair b.link.row b.link.good b.bits.now c.args.start c.requires.1 at.invariant.2 (omega arith) (omega arith) (omega arith) c.stepped.result c.stepped-x.result (cc) (cc) in
    let end : at.s + 2 ≡ 2 * b.link.row.k2 = omega arith in
    sym (take_all (2 * b.link.row.k2) _ (simp length-set (omega arith))) ∙ rw end at more.laid
