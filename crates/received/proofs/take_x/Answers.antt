use Rattle.std.proofs.Common.{◌≡◌, ◌∙◌, refl, sym, ap, arith, rules, ℕ, ◌+◌, ◌%◌, length}
use Rattle.links.proofs.Period.{length-clocks}
use Rattle.links.specs.Patterns.{pattern_of}
use Rattle.received.proofs.Taking.{taking_start, taking_more, taking_done}
use Rattle.received.proofs.take_x.Goals as goal

pub loop-bit-init : goal.loop-bit-init
loop-bit-init c = taking_start c.args.link.row c.args.link.good c.args.coded.now c.requires.1 c.args.u.now

pub loop-bit-preserved : goal.loop-bit-preserved
loop-bit-preserved c =
    let link = c.args.link in
    let at = c.loop-bit in
    let pattern = c.flags-flags.ensures.0 in
    let flags = c.flags-flags.result in
    let period : flags.period ≡ length (pattern_of link.row.pattern) = sym (length-clocks flags (search rules)) ∙ ap length pattern in
    taking_more link.row link.good c.args.coded.now c.requires.1 at.invariant (omega arith) (omega arith) _ _
    (c.totals-totals.ensures at.clock (rw pattern at.invariant.phase) ∙ rw pattern refl)
    (c.next_clock-clock.ensures ∙ ap (λ (n : ℕ). (at.clock + 1) % n) period)

pub returns : goal.returns
returns c = taking_done c.args.link.row c.args.link.good c.args.coded.now c.requires.1 c.loop-bit.invariant (omega arith) (omega arith)
