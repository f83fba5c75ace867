-- The code's table is the list of the entries that antt computes from the rows, and the search goes over it. Assumes nothing.
use mathlib.Core.List.{map}
use Rattle.std.proofs.Common.{ℕ, Option, rules, tests, ap, unwrap_or, length, ◌∙◌}
use Rattle.std.proofs.lemmas.Iterator.{YieldsList-from_slice}
use Rattle.std.proofs.lemmas.Iterator.Search.{position_from_yields_List}
use Rattle.links.specs.Patterns.{patterns, tails, clocks_in, flags_at, total}
use Rattle.links.specs.Rows.{rows}
use Rattle.links.specs.Sizes.{passed_on, tail_bits, image_length}
use Rattle.links.proofs.Entries.{entry, is_of, placed}
use Rattle.links.proofs.table.place_of.Goals as goal

pub returns : goal.returns
unfolding rows patterns tails clocks_in flags_at total passed_on tail_bits image_length
returns c =
    let link = c.args.link in
    let table = YieldsList-from_slice (map entry rows) c.iter.ensures.rest in
    let h = position_from_yields_List (is_of link) _ _ c.position.result c.position.ensures.ran table (λ x b q k. search (rules, tests)) in
    c.unwrap_or.ensures ∙ ap (λ (o : Option ℕ). unwrap_or o (length rows)) h ∙ placed link
