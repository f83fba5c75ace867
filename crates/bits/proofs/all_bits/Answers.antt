use Rattle.std.proofs.Common.{rules, tests, leb, sym, ◌∙◌}
use Rattle.std.proofs.lemmas.Iterator.{YieldsList-from_slice}
use Rattle.std.proofs.lemmas.Iterator.Search.{all_from_yields_List}
use Rattle.lists.proofs.Every.{every_is}
use Rattle.bits.proofs.all_bits.Goals as goal

pub returns : goal.returns
returns c =
    all_from_yields_List (λ x. leb x 1) _ _ c.all.result c.all.ensures.ran (YieldsList-from_slice c.args.bytes.now cc) (λ x b q k. search (rules, tests))
    ∙ sym (every_is _ _)
