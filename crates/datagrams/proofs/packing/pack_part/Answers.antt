use Rattle.std.proofs.Common.{◌+◌, ◌*◌, rules, arith, Fits, w8, get_or, map}
use Rattle.std.proofs.lemmas.List.{length-map}
use Rattle.datagrams.proofs.Packed.{bytes-known, packed_none, packed_part}
use Rattle.datagrams.proofs.packing.pack_part.Goals as goal

pub returns-then-not-is_empty : goal.returns-then-not-is_empty
returns-then-not-is_empty g c =
    let a = c.args in
    let bytes = bytes-known a.out.now (λ i. let byte : Fits w8 (get_or a.out.now i 0) = search rules in byte.fits) in
    packed_part a.j a.from c.byte_over.result (map g.B.Bit.value a.bits.now) a.out.now bytes (omega arith) (search rules) (rw length-map c.requires.0) c.byte_over.ensures

pub returns-else-not-is_empty : goal.returns-else-not-is_empty
returns-else-not-is_empty g c =
    let a = c.args in
    packed_none (a.j * 8 + a.from) (map g.B.Bit.value a.bits.now) a.out.now (bytes-known a.out.now (λ i. (c.type_inv.out i).fits)) (rw length-map (search rules))
