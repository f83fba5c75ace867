use mathlib.Core.Path.{◌≡◌}
use mathlib.Core.List.{List, ◌∷◌}
use Prim.Native.Nat.{ℕ, ◌+◌, ◌<◌}
use native.Mathlib.Nat.{add-zero, add_assoc}
use native.Mathlib.Numerals.{add-one}
use native.Mathlib.Omega.{arith}
use lib.ListN.{length, get_or, drop, drop_of_length-le}
use lib.Seq.{drop-cons}
use Rattle.lists.proofs.Over.{start, fits, more, done}
use borrow.Author.Rules.{rules}
use Rattle.bits.proofs.lay_bytes.Goals as goal

left : (bytes : List ℕ) (i : ℕ) → i < length bytes → drop i bytes ≡ get_or bytes i 0 ∷ drop (i + 1) bytes
left bytes i h = rw (drop-cons bytes i 0 h, add-one)

pub loop-i-init : goal.loop-i-init
loop-i-init c =
    let a = c.args in
    (search rules, search rules, rw add-zero (start a.out.now a.at a.bytes.now c.requires))

pub bounds-out-at : goal.bounds-out-at
bounds-out-at c =
    let at = c.loop-i in
    fits _ _ at.invariant.2 (left c.args.bytes.now at.i (omega arith))

pub loop-i-preserved : goal.loop-i-preserved
loop-i-preserved c =
    let at = c.loop-i in
    (search rules, search rules, rw (← add_assoc) (more _ _ at.invariant.2 (left c.args.bytes.now at.i (omega arith))))

pub returns : goal.returns
returns c = (done c.loop-i.invariant.2 (drop_of_length-le c.args.bytes.now {i = c.loop-i.i} (omega arith))).1
