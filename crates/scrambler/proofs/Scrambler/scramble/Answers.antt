use mathlib.Core.Path.{◌≡◌}
use Prim.Native.Nat.{ℕ, ◌*◌, ◌/◌}
use native.Mathlib.Omega.{arith}
use borrow.Author.Rules.{rules}
use lib.ListN.{length, length-take, length-drop}
use Rattle.scrambler.specs.Working.Scrambles.{Scrambles}
use Rattle.scrambler.proofs.Register.{output-word}
use Rattle.scrambler.proofs.Running.{scrambles_none, scrambles_more, scrambles_part}
use Rattle.scrambler.proofs.Scrambler.scramble.Goals as goal
use Rattle.scrambler.proofs.Scrambler.scramble.Goals.{else-loop-at-test, then-loop-at-test+else-whole-at-gt8}

pub loop-at-init : goal.loop-at-init
loop-at-init c = (search rules, search rules, scrambles_none _ _ (omega arith))

pub loop-at-preserved : goal.loop-at-preserved
loop-at-preserved c = (omega arith, omega arith, scrambles_part c.loop-at.invariant.2 c.scramble_eight.ensures (omega arith) (omega arith))

pub loop-byte-init : goal.loop-byte-init
loop-byte-init c = scrambles_none _ _ (omega arith)

pub loop-byte-preserved : goal.loop-byte-preserved
loop-byte-preserved c =
    let at = c.loop-byte in
    scrambles_more _ _ at.invariant (output-word at.self.register) (omega arith)

pub returns : goal.returns
returns c =
    let at = c.loop-at in
    let whole = length c.args.out.now / 8 * 8 in
    let groups : Scrambles c.args.self.now.register whole c.args.out.now c.loop-at-test.out c.loop-at-test.self.register =
    elim c.loop-at-test.branch [
      | else-loop-at-test w ↦ let end : at.at ≡ whole = omega arith in rw (w.self-is, w.out-is, ← end) at.invariant.2
      | then-loop-at-test+else-whole-at-gt8 w ↦ rw (w.self-is, w.out-is) (scrambles_part at.invariant.2 w.scramble_eight.ensures (omega arith) (omega arith))
    ] in
    scrambles_part groups c.loop-byte.invariant (omega (arith, length-take {A = ℕ}, length-drop {A = ℕ})) (omega arith)
