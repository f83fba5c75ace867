-- What the scan says decides. Assumes nothing.
use Rattle.std.proofs.Common.{rules, tests, sym, ◌∙◌}
use Rattle.std.proofs.lemmas.Iterator.{YieldsList-from_slice}
use Rattle.std.proofs.lemmas.Iterator.Search.{all_from_yields_List}
use Rattle.lists.proofs.Every.{every_is}
use Rattle.messages.specs.Fill.{is_zero}
use Rattle.messages.proofs.Ways.{zeros_only, zeros_broken}
use Rattle.messages.proofs.steps.zeros_at.Goals as goal

pub returns-then-all : goal.returns-then-all
returns-then-all c =
    let left = c.args.left.now in
    let scanned = all_from_yields_List is_zero _ _ c.all.result c.all.ensures.ran (YieldsList-from_slice left cc) (λ x b q k. search (rules, tests)) in
    sym (zeros_only left (every_is is_zero left ∙ sym scanned ∙ c.if-all.true))

pub returns : goal.returns
returns c =
    let left = c.args.left.now in
    let scanned = all_from_yields_List is_zero _ _ c.all.result c.all.ensures.ran (YieldsList-from_slice left cc) (λ x b q k. search (rules, tests)) in
    sym (zeros_broken left (every_is is_zero left ∙ sym scanned ∙ c.if-all.false))
