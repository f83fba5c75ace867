-- The inputs, the taps of what they fed, and the registers after them. Assumes nothing.
use Rattle.std.proofs.Common.{sym, ap, ◌∙◌}
use Rattle.encoder.specs.Working.Fed.{fed_on}
use Rattle.groups.proofs.Stands.{inputs-row, stands}
use Rattle.groups.proofs.group.put_group.Goals as goal

pub returns : goal.returns
returns c =
    let a = c.args.registers.a in
    let b = c.args.registers.b in
    let us = c.args.group.u.now in
    let vs = c.args.group.v.now in
    let long = c.requires in
    let same = sym c.args.group.same ∙ long in
    let x = c.packed-x.ensures.0 in
    let y = c.packed-y.ensures.0 in
    let first = c.many-a.ensures ∙ ap (fed_on a) (inputs-row us long x) in
    let second = c.many-b.ensures ∙ ap (fed_on b) (inputs-row vs same y) in
    record {
      stands = stands a b us vs long same _ _ _ _ _ _ _ _ x first c.y0.ensures c.y1.ensures y second c.y0-2.ensures c.y1-2.ensures;
      first = c.last.ensures a us first;
      second = c.last-2.ensures b vs second;
    }
