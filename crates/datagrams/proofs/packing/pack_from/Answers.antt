use Rattle.std.proofs.Common.{◌∙◌, map, rules}
use Rattle.std.proofs.lemmas.List.{drop-map, length-map}
use Rattle.datagrams.proofs.Pieces.{byte_more}
use Rattle.datagrams.proofs.packing.pack_from.Goals as goal

pub loop-byte-preserved : goal.loop-byte-preserved
loop-byte-preserved g c =
    let at = c.loop-byte in
    let split = c.in-Some.ensures.split in
    let value = g.B.Bit.value in
    let rest = map value at.rest.now in (
      search rules,
      rw (split.1, ← drop-map value 8 at.rest.now) (byte_more at.at c.in-Some.byte rest at.out (rw length-map (search rules)) (rw length-map at.invariant.0) split.0 ∙ at.invariant.1),
    )
