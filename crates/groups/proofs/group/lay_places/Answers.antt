use Rattle.std.proofs.Common.{arith, rules}
use Rattle.lists.proofs.Over.{start, fits_piece, more_piece, done}
use Rattle.links.specs.Working.Clocks.{clocks_of}
use Rattle.links.proofs.Period.{length-clocks}
use Rattle.groups.proofs.Places.{length_places, places_more, places_done}
use Rattle.groups.proofs.group.lay_places.Goals as goal

pub loop-c-init : goal.loop-c-init
loop-c-init c =
    let f = c.args.flags in
    start _ _ _ (omega (arith, length_places (clocks_of f) f.twice 0 24))

pub lay-to-requires : goal.lay-to-requires
lay-to-requires c =
    let f = c.args.flags in
    let l = c.loop-c in
    let next = rw (length-clocks f (search rules)) at (places_more (clocks_of f) l.c (omega arith)) in
    rw (c.clocks-clocks.ensures, c.places_of.ensures) (fits_piece _ _ l.invariant next)

pub loop-c-preserved : goal.loop-c-preserved
loop-c-preserved c =
    let f = c.args.flags in
    let l = c.loop-c in
    let next = rw (length-clocks f (search rules)) at (places_more (clocks_of f) l.c (omega arith)) in
    more_piece _ _ l.invariant next (rw (c.clocks-clocks.ensures, c.places_of.ensures) at c.lay-to.ensures)

pub returns : goal.returns
returns c =
    let l = c.loop-c in
    done l.invariant (places_done (clocks_of c.args.flags) l.c (omega arith))
