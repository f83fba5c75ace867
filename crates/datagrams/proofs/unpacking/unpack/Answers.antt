-- Assumes nothing.
use Rattle.std.proofs.Common.{arith, rules, refl, ◌≡◌, ◌+◌, ◌-◌, ◌*◌, ◌/◌, length, map, take, drop, ◌∙◌}
use lib.ListN.{length-take, length-drop}
use Rattle.bits.specs.Datagram.{bits_of, filled}
use Rattle.datagrams.proofs.Unpacked.{cells_more, cells-done}
use Rattle.datagrams.proofs.unpacking.unpack.Goals as goal
use Rattle.datagrams.proofs.unpacking.unpack.Goals.{else-loop-at-test, then-loop-at-test+else-whole-at-gt8}

pub loop-at-init : goal.loop-at-init
unfolding filled
loop-at-init g c = search rules

pub loop-at-preserved : goal.loop-at-preserved
loop-at-preserved g c =
    let a = c.args in
    let at = c.loop-at in
    let eight : length (take (at.at + 8 - at.at) (drop at.at at.row)) ≡ 8 = omega (arith, length-take {A = g.row.B.Denot}, length-drop {A = g.row.B.Denot}) in
    let more = cells_more g.B.Bit.holding (bits_of a.datagram.now) a.from at.at 8 _ at.row _ (rw eight at c.lay_bits.ensures) c.bits_from.ensures at.invariant.2 in
    (omega arith, omega arith, more _ (omega arith))

pub bits_from-requires-2 : goal.bits_from-requires-2
bits_from-requires-2 g c = omega (arith, length-take {A = g.row.B.Denot}, length-drop {A = g.row.B.Denot})

pub returns : goal.returns
returns g c =
    let a = c.args in
    let at = c.loop-at in
    let whole = length a.row.now / 8 * 8 in
    let holding = g.B.Bit.holding in
    let bits = bits_of a.datagram.now in
    let eights : take whole c.loop-at-test.row ≡ map holding (filled whole (drop a.from bits)) =
    elim c.loop-at-test.branch [
      | else-loop-at-test w ↦ let end : at.at ≡ whole = omega arith in rw (w.row-is, ← end) at.invariant.2
      | then-loop-at-test+else-whole-at-gt8 w ↦
          let end : at.at + 8 ≡ whole = omega arith in
          let eight : length (take (at.at + 8 - at.at) (drop at.at at.row)) ≡ 8 = omega (arith, length-take {A = g.row.B.Denot}, length-drop {A = g.row.B.Denot}) in
          rw (w.row-is, ← end) (cells_more holding bits a.from at.at 8 _ at.row _ (rw eight at w.lay_bits.ensures) w.bits_from.ensures at.invariant.2 _ (omega arith))
    ] in
    let done = cells-done holding bits a.from whole _ _ c.loop-at-test.row _ c.lay_bits-2.ensures c.bits_from-2.ensures eights in
    done _ (omega arith) (omega (arith, length-take {A = g.row.B.Denot}, length-drop {A = g.row.B.Denot})) ∙ rw (c.loop-at-test.auto.row, c.loop-at.auto.row) refl
