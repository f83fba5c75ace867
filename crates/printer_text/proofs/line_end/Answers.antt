-- The chain counts the characters of the line. Assumes nothing.
use Rattle.std.proofs.Common.{rules, tests, length, sym, ap, ◌∙◌}
use Rattle.std.proofs.lemmas.Iterator.{YieldsList-from_slice}
use Rattle.std.proofs.lemmas.Iterator.Consumers.{count_from_yields_List}
use Rattle.std.proofs.lemmas.Iterator.Search.{YieldsList-from_take_while}
use Rattle.printer_text.proofs.Line.{in_line, line-is}
use Rattle.printer_text.proofs.line_end.Goals as goal

pub returns : goal.returns
returns c =
    let input = c.args.input.now in
    count_from_yields_List c.take_while.result _ c.count.ensures.ran
    (YieldsList-from_take_while _ in_line (YieldsList-from_slice input cc) c.take_while.ensures.closure c.take_while.ensures.done (λ x b q k. search (rules, tests)))
    ∙ ap length (sym (line-is input))
