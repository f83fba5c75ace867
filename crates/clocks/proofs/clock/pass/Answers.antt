-- No copy, one or two by stores; more fill a part of the slice. Assumes nothing.
use mathlib.Core.Path.{◌≡◌, refl, sym, ap, ◌∙◌}
use mathlib.Core.List.{List, [], ◌∷◌, ◌++◌, append_assoc}
use Prim.Native.Nat.{ℕ, ◌+◌, ◌-◌, ◌<◌}
use native.Mathlib.Omega.{arith}
use lib.ListN.{length, take, drop, replicate, length-replicate, length-drop}
use lib.Seq.{drop-drop, length-take-le}
use borrow.Rule.Slice.PartMut.{put_mid}
use Rattle.lists.specs.Over.{over}
use Rattle.lists.proofs.Over.{start, more, done, lays_one}
use Rattle.clocks.proofs.clock.pass.Goals as goal

-- what is written into a part of a list is laid over it
part-over : (at : ℕ) (p old : List ℕ) → put_mid at (length p) old p ≡ over at p old
unfolding over
part-over at p old =
    sym (append_assoc (take at old) p (drop (length p) (drop at old))) ∙ ap (λ (rest : List ℕ). take at old ++ p ++ rest) (drop-drop (length p) at old)

pub returns-in-0 : goal.returns-in-0
returns-in-0 c =
    let a = c.args in
    let none : a.flag ≡ 0 = c.in-0.is in
    let l = done (start a.out.now a.at [] (rw none at c.requires)) refl in
    (omega (arith, length-replicate a.flag a.byte), rw none l.1)

pub returns-in-1 : goal.returns-in-1
returns-in-1 c =
    let a = c.args in
    let one : a.flag ≡ 1 = c.in-1.is in
    let room : a.at < length a.out.now = omega (arith, rw one at c.requires) in
    (omega (arith, length-replicate a.flag a.byte), rw one ((lays_one a.at a.byte a.out.now room).1))

pub returns-in-2 : goal.returns-in-2
returns-in-2 c =
    let a = c.args in
    let two : a.flag ≡ 2 = c.in-2.is in
    let l = done (more a.byte [] (more a.byte (a.byte ∷ []) (start a.out.now a.at (a.byte ∷ a.byte ∷ []) (rw two at c.requires)) refl) refl) refl in
    (omega (arith, length-replicate a.flag a.byte), rw two l.1)

pub returns-in_default : goal.returns-in_default
returns-in_default c =
    let a = c.args in
    let copies = replicate a.flag a.byte in
    let many : length copies ≡ a.flag = length-replicate a.flag a.byte in
    let size : a.at + c.from.result - a.at ≡ length copies = omega (arith, many) in
    let room : length (take (length copies) (drop a.at a.out.now)) ≡ a.flag = length-take-le (length copies) (drop a.at a.out.now) (omega (arith, length-drop a.at a.out.now)) ∙ many in
    let filled : c.fill_part.new.part ≡ copies = c.fill_part.ensures ∙ rw (size, room) in
    (omega (arith, many), rw (filled, size) (part-over a.at copies a.out.now))
