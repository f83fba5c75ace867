use Rattle.std.proofs.Common.{map, rules, arith}
use Rattle.std.proofs.lemmas.Grind.{common_steps}
use Rattle.std.proofs.lemmas.List.{length-map, take-map, drop-map}
use Rattle.datagrams.proofs.Pieces.{head-and-rest}
use Rattle.datagrams.proofs.packing.pack.Goals as goal

pub returns : goal.returns
returns g c =
    let a = c.args in
    let value = g.B.Bit.value in
    let split = c.split_at.ensures in
    head-and-rest a.at c.min.result (map value a.row.now) a.out.now _ _ (rw length-map c.requires) (rw length-map (search rules)) (rw length-map (grind (arith, common_steps)))
    (rw (split.front, ← take-map value c.min.result a.row.now) at c.pack_part.ensures) (rw (split.back, ← drop-map value c.min.result a.row.now) at c.pack_from.ensures)
