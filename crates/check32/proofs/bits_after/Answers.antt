use mathlib.Core.Path.{◌≡◌, sym, ap, ◌∙◌}
use mathlib.Core.Bool.{false}
use Prim.Native.Nat.{ℕ}
use native.Mathlib.Nat.{sub-zero}
use native.Mathlib.Omega.{arith}
use borrow.Author.Rules.{rules}
use Rattle.check32.specs.Check.{step}
use Rattle.check32.specs.Working.Marks.{bits_after}
use Rattle.check32.proofs.Marks.{mark-start, mark-next, mark_here, mark_later, mark-none}
use Rattle.check32.proofs.bits_after.Goals as goal

pub loop-n-init : goal.loop-n-init
loop-n-init c = (search rules, sym mark-start, rw sub-zero)

pub returns-then-mark-register : goal.returns-then-mark-register
returns-then-mark-register c =
    let at = c.loop-n in
    let a = c.args in
    let here : bits_after a.register a.k ≡ at.n = sym at.invariant.2 ∙ mark_here a.register at.n a.k (omega arith) (sym at.invariant.1 ∙ c.if-mark-register.true) in
    rw here (search rules)

pub loop-n-preserved : goal.loop-n-preserved
loop-n-preserved c =
    let at = c.loop-n in
    let a = c.args in (
      search rules,
      c.step-mark.ensures ∙ ap (λ (r : ℕ). step r false) at.invariant.1 ∙ mark-next at.n,
      sym (mark_later a.register at.n a.k (omega arith) (λ e. c.if-mark-register.false (at.invariant.1 ∙ e))) ∙ at.invariant.2,
    )

pub returns : goal.returns
returns c =
    let at = c.loop-n in
    let a = c.args in
    let end : at.n ≡ a.k = omega arith in
    let none : bits_after a.register a.k ≡ a.k = sym at.invariant.2 ∙ mark-none a.register at.n a.k (omega arith) ∙ end in
    rw none (search rules)
