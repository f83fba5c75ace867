-- Pair by pair: what one turn leaves to compare. At the end no symbol is left.
use Rattle.std.proofs.Common.{rules, arith, ◌+◌, ◌∙◌}
use mathlib.Core.Logic.{⊎_elim}
use Rattle.std.specs.Array.Iter.{array_into_iter_items}
use Rattle.std.specs.Slice.Iter.{chunks_exact_rest}
use Rattle.std.specs.Iterator.Adapters.{zip_first, zip_second}
use Rattle.slots.proofs.Symbols.{Compared, compared_none, compared_more, compared_all}
use Rattle.slots.proofs.training.wrong.Goals as goal
use Rattle.slots.proofs.training.wrong.Goals.{After-wrong_in-count}

turn : (c : After-wrong_in-count)
    → Compared c.args.came.now (array_into_iter_items (zip_second c.next.new.self)) (chunks_exact_rest (zip_first c.next.new.self))
    (c.loop-pair.count + c.wrong_in-count.result)
turn c =
    let steps = c.in-Some.ensures.steps in
    compared_more _ (steps.0.1.1 ∙ c.loop-pair.invariant.0) (rw (steps.1, steps.0.1.0) at c.loop-pair.invariant.1) c.wrong_in-count.ensures

pub loop-pair-init : goal.loop-pair-init
loop-pair-init c = (search rules, compared_none _ _ _ c.requires (cc c.zip-pair-items.ensures.second.0) (cc))

pub overflow_add-count : goal.overflow_add-count
overflow_add-count c = record { fits = omega (arith, (turn (goal.at.overflow_add-count c).After-wrong_in-count).few) }

pub loop-pair-preserved : goal.loop-pair-preserved
loop-pair-preserved c = (search rules, turn (goal.at.loop-pair-preserved c).After-wrong_in-count)

pub returns : goal.returns
returns c = compared_all _ _ _ c.loop-pair.invariant.1 (⊎_elim (λ h. omega (arith, h.1.1.0)) (λ h. h.1.0) c.in-None.ensures.steps)
