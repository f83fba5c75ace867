-- Every bit over is tested. Assumes nothing.
use mathlib.Core.Bool.{Bool}
use mathlib.Core.List.{List, [], ◌∷◌, map}
use Rattle.std.proofs.Common.{◌≡◌, refl, rules, tests, ap, ◌∙◌, ◌*◌, take, not}
use Rattle.std.proofs.lemmas.Iterator.{YieldsList-from_slice}
use Rattle.std.proofs.lemmas.Iterator.Search.{all_from_yields_List}
use Rattle.std.specs.List.{list_all}
use Rattle.lists.proofs.Parts.{drop-take, map-take, map-drop}
use Rattle.lists.specs.Every.{every}
use Rattle.bits.specs.Bits.{all_zero}
use Rattle.links.specs.Sizes.{open_bits, bytes_held}
use Rattle.accepting.proofs.over_zero.Goals as goal

-- the cells are tested as their bits are
every-value : {A : Type 0} (value : A → Bool) (cells : List A) → list_all (λ x. not (value x)) cells ≡ every not (map value cells)
unfolding every
every-value value [] = refl
every-value value (x ∷ xs) = rw (every-value value xs)

pub returns : goal.returns
unfolding all_zero
returns g c =
    let row = c.args.link.row in
    let u = c.args.u.now in
    let value = g.B.Bit.value in
    let held = bytes_held row * 8 in
    let part = drop-take held (open_bits row) u in
    all_from_yields_List (λ x. not (value x)) _ _ c.all.result c.all.ensures.ran (YieldsList-from_slice _ cc) (λ x b q k. search (rules, tests))
    ∙ every-value value _
    ∙ ap (λ (bits : List Bool). every not bits) (map-drop value held (take (open_bits row) u) ∙ rw (map-take value (open_bits row) u))
