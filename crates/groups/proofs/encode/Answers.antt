use Rattle.std.proofs.Common.{◌∙◌, sym, arith, rules}
use lib.Seq.{length-take-le}
use Rattle.lists.proofs.Over.{fits_piece, more_piece}
use Rattle.links.specs.Working.Clocks.{clocks_of}
use Rattle.links.proofs.Period.{length-clocks}
use Rattle.groups.proofs.AtGroup.{front, front-within, group_more}
use Rattle.groups.proofs.encode.Goals as goal

pub slice_bounds-room-end : goal.slice_bounds-room-end
slice_bounds-room-end c = front-within _ _ c.lay_places-count.ensures

pub slice_bounds-places-end : goal.slice_bounds-places-end
slice_bounds-places-end c = sym (length-take-le _ _ (front-within _ _ c.lay_places-count.ensures))

pub lay_digits-at-requires : goal.lay_digits-at-requires
lay_digits-at-requires c =
    let f = c.args.flags in
    let l = c.loop-places in
    let listed = front _ _ c.lay_places-count.ensures in
    let next = group_more (clocks_of f) f.tail l.rest.u.now l.rest.v.now c.put_group-put.ensures listed (rw (length-clocks f (search rules)) (sym c.whole-in_groups.ensures ∙ c.loop-places-test.true)) (omega arith) l.rest.same c.split_at.ensures.first in
    fits_piece _ _ l.invariant next

pub loop-places-preserved : goal.loop-places-preserved
loop-places-preserved c =
    let f = c.args.flags in
    let l = c.loop-places in
    let listed = front _ _ c.lay_places-count.ensures in
    let next = group_more (clocks_of f) f.tail l.rest.u.now l.rest.v.now c.put_group-put.ensures listed (rw (length-clocks f (search rules)) (sym c.whole-in_groups.ensures ∙ c.loop-places-test.true)) (omega arith) l.rest.same c.split_at.ensures.first in
    rw (c.split_at.ensures.behind.0, c.split_at.ensures.behind.1) (more_piece _ _ l.invariant next c.lay_digits-at.ensures)
