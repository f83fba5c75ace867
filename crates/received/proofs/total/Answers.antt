use Rattle.std.proofs.Common.{◌≡◌, ◌<◌, length, sum, sym, refl, ◌∙◌, arith, rules}
use Rattle.std.proofs.iter.runs.Sources.{sums}
use Rattle.std.proofs.lemmas.List.Recursion.{is_sum_by}
use Rattle.links.specs.Patterns.{total}
use Rattle.received.proofs.total.Goals as goal

pub sum-requires-clause-fits : goal.sum-requires-clause-fits
sum-requires-clause-fits c = let six : length c.args.flags < 7 = omega arith in search (rules, sums)

pub returns : goal.returns
unfolding total
returns c =
    let summed : c.sum.result ≡ sum c.args.flags = search rules in
    summed ∙ sym (is_sum_by total (λ x. x) refl (λ _ _. refl) c.args.flags)
