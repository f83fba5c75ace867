use Rattle.std.proofs.lemmas.List.{map-id}
use Rattle.datagrams.proofs.WithinByte.{written-small, written-bits}
use Rattle.datagrams.proofs.packing.byte_over.Goals as goal

pub overflow_cast-result : goal.overflow_cast-result
overflow_cast-result g c =
    let a = c.args in
    rw (c.number_of-2.ensures, map-id, c.lay_bits-2.ensures, map-id, c.number_of.ensures, c.lay_bits.ensures, map-id, c.from.ensures)
    record { fits = written-small a.old a.from g.B.Bit.value a.bits.now c.requires }

pub returns : goal.returns
returns g c =
    let a = c.args in
    rw (c.number_of-2.ensures, map-id, c.lay_bits-2.ensures, map-id, c.number_of.ensures, c.lay_bits.ensures, map-id, c.from.ensures)
    (written-bits a.old a.from g.B.Bit.value a.bits.now c.requires)
