use mathlib.Core.Path.{◌≡◌, ap, ◌∙◌}
use Prim.Native.Nat.{ℕ, ◌/◌, ◌%◌}
use native.Mathlib.Omega.{arith}
use lib.Pow.{shr-shr}
use Rattle.scrambler.proofs.Ahead.{sums, ahead_none, ahead_eight, ahead_output, ahead_more}
use Rattle.scrambler.proofs.Running.{scrambles_none, scrambles_more}
use Rattle.scrambler.proofs.Scrambler.scramble_eight.Goals as goal

pub loop-byte-init : goal.loop-byte-init
loop-byte-init c =
    let register = c.args.self.now.register in
    (omega arith, rw (ahead_none register) (scrambles_none register c.args.group.now (omega arith)))

pub loop-byte-preserved : goal.loop-byte-preserved
loop-byte-preserved c =
    let at = c.loop-byte in
    let (now, so_far) = at.invariant in
    let register = c.args.self.now.register in
    let i = at.byte-index in (
      ap (λ (x : ℕ). x / 2) now ∙ shr-shr (sums register) i 1,
      scrambles_more (at.sums % 2) _ so_far (ap (λ (x : ℕ). x % 2) now ∙ ahead_output register i (omega arith)) (rw now (ahead_more register i (omega arith))),
    )

pub returns : goal.returns
returns c =
    let at = c.loop-byte in
    let eight : at.byte-index ≡ 8 = omega arith in
    rw (eight, ahead_eight c.args.self.now.register) at at.invariant.1
