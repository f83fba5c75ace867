use mathlib.Core.Path.{◌≡◌}
use Rattle.std.proofs.Common.{rules}
use Rattle.std.proofs.lemmas.Slice.Zip.{either_empty_from_Zip}
use Rattle.std.specs.Iterator.Adapters.{zip_first, zip_second}
use Rattle.std.specs.Slice.Iter.{iter_rest}
use Rattle.lists.proofs.Over.{start, more_piece, fits_piece, done}
use Rattle.clocks.proofs.Left.{passed_more, passed-done}
use Rattle.clocks.proofs.clock.lay.Goals as goal

pub loop-flag-init : goal.loop-flag-init
loop-flag-init c =
    let first : iter_rest (zip_first c.into_iter-flag-iterator.result) ≡ c.args.flags = search rules in
    let second : iter_rest (zip_second c.into_iter-flag-iterator.result) ≡ c.args.six = search rules in
    rw (first, second) (start _ _ _ c.requires)

pub pass-to-requires : goal.pass-to-requires
pass-to-requires c = fits_piece _ _ c.loop-flag.invariant (passed_more _ _ c.in-Some.ensures.steps)

pub loop-flag-preserved : goal.loop-flag-preserved
loop-flag-preserved c = more_piece _ _ c.loop-flag.invariant (passed_more _ _ c.in-Some.ensures.steps) c.pass-to.ensures

pub returns : goal.returns
returns c =
    let none = either_empty_from_Zip c.loop-flag.flag-iterator c.next.new.self c.next.result c.in-None.is c.next.ensures.steps in
    done c.loop-flag.invariant (passed-done _ _ none)
