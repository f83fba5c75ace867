use mathlib.Core.Path.{◌≡◌, refl, sym, ap, ◌∙◌}
use Prim.Native.Nat.{ℕ, ◌+◌, ◌%◌}
use native.Mathlib.Nat.{mod-add-mod}
use lib.ListN.{length}
use Rattle.std.proofs.Common.{rules}
use Rattle.std.proofs.lemmas.List.{length_push}
use Rattle.std.proofs.lemmas.Slice.Zip.{either_empty_from_Zip}
use Rattle.lists.proofs.Over.{more_piece, fits_piece, fits_rest, last}
use Rattle.links.specs.Working.Clocks.{clocks_of}
use Rattle.links.proofs.Period.{length-clocks}
use Rattle.clocks.proofs.Left.{coded_more, coded-done}
use Rattle.clocks.proofs.lay_rest.Goals as goal

pub lay-to-requires : goal.lay-to-requires
lay-to-requires c =
    let f = c.args.flags in
    let l = c.loop-u in
    rw (c.clocks-clocks.ensures, c.six.ensures) (fits_piece _ _ l.invariant.1 (coded_more (clocks_of f) f.tail (length l.yielded) l.registers.a l.registers.b _ _ l.invariant.0 refl c.in-Some.ensures.steps))

pub loop-u-preserved : goal.loop-u-preserved
loop-u-preserved c =
    let f = c.args.flags in
    let l = c.loop-u in
    let n = length (clocks_of f) in
    let after = length_push l.yielded (c.in-Some.field-0-0, c.in-Some.field-0-1) in
    let moved : c.next_clock-clock.result ≡ (l.clock + 1) % n = rw (length-clocks f (search rules)) c.next_clock-clock.ensures in (
      moved ∙ ap (λ (k : ℕ). (k + 1) % n) l.invariant.0 ∙ mod-add-mod (length l.yielded) n 1 ∙ ap (λ (k : ℕ). k % n) (sym after),
      rw (c.next-registers.ensures.0, c.next-registers.ensures.1)
          (more_piece _ _ l.invariant.1
          (coded_more (clocks_of f) f.tail (length l.yielded) l.registers.a l.registers.b _ _ l.invariant.0 after c.in-Some.ensures.steps)
          (rw (c.clocks-clocks.ensures, c.six.ensures) at c.lay-to.ensures)),
    )

pub end-requires : goal.end-requires
end-requires c =
    let f = c.args.flags in
    let l = c.loop-u in
    let none = either_empty_from_Zip l.u-iterator c.next.new.self c.next.result c.in-None.is c.next.ensures.steps in
    fits_rest (rw (coded-done (clocks_of f) f.tail (length l.yielded) l.registers.a l.registers.b _ _ none) at l.invariant.1)

pub returns : goal.returns
returns c =
    let f = c.args.flags in
    let l = c.loop-u in
    let none = either_empty_from_Zip l.u-iterator c.next.new.self c.next.result c.in-None.is c.next.ensures.steps in
    last (rw (coded-done (clocks_of f) f.tail (length l.yielded) l.registers.a l.registers.b _ _ none) at l.invariant.1) c.end.ensures
