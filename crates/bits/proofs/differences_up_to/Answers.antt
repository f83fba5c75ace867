use Rattle.std.proofs.Common.{rules, tests, ◌∙◌}
use Rattle.std.proofs.lemmas.Iterator.{YieldsList-from_slice, YieldsList-from_zip}
use Rattle.std.proofs.lemmas.Iterator.Consumers.{YieldsList-at, YieldsList-from_filter, count_from_yields_List}
use Rattle.bits.proofs.Counted.{apart, counted}
use Rattle.bits.proofs.differences_up_to.Goals as goal

pub returns : goal.returns
returns c =
    let a = c.args.a.now in
    let b = c.args.b.now in
    let count =
    count_from_yields_List c.filter.result c.count-count.result c.count-count.ensures.ran
    (YieldsList-from_filter _ apart
    (YieldsList-at c.filter.ensures.source (YieldsList-from_zip (YieldsList-at c.zip.ensures.first (YieldsList-from_slice a cc)) (YieldsList-from_slice b cc)))
    c.filter.ensures.closure (λ x r q k. search (rules, tests)))
    ∙ counted a b c.requires.0 c.requires.1 c.requires.2 in
    rw (← count) (search rules)
