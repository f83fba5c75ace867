use mathlib.Core.Bool.{false}
use mathlib.Core.List.{map}
use mathlib.Core.Path.{◌≡◌, ◌∙◌, sym, ap}
use native.Mathlib.Omega.{arith}
use borrow.Author.Rules.{rules}
use lib.ListN.{get_or}
use Rattle.std.proofs.lemmas.List.{drop-map, get_or-map, length-map}
use Rattle.check32.proofs.ByteStep.{register-byte}
use Rattle.check32.proofs.Word.{register_more, register-done}
use Rattle.check32.proofs.register.Goals as goal

pub loop-byte-preserved : goal.loop-byte-preserved
loop-byte-preserved g c =
    let at = c.loop-byte in
    let split = c.in-Some.ensures.split in
    let value = g.B.Bit.value in
    rw (c.step_byte-r.ensures, split.0, split.1, ← drop-map value 8 at.rest.now)
    (register-byte (map value at.rest.now) at.r (rw length-map (search rules)) ∙ at.invariant)

pub loop-bit-preserved : goal.loop-bit-preserved
loop-bit-preserved g c =
    let at = c.loop-bit in
    let value = g.B.Bit.value in
    let row = c.loop-byte.rest.now in
    let bit : c.is_one.result ≡ get_or (map value row) at.bit-index false =
    c.is_one.ensures ∙ ap value c.bit-item.is ∙ sym (get_or-map value row at.bit-index c.bit-item.result false (omega arith)) in
    rw (c.step-r.ensures, bit) (register_more (map value row) at.r at.bit-index (rw length-map (omega arith)) ∙ at.invariant)

pub returns : goal.returns
returns g c =
    let at = c.loop-bit in
    sym (register-done (map g.B.Bit.value c.loop-byte.rest.now) at.r at.bit-index (rw length-map (omega arith))) ∙ at.invariant
