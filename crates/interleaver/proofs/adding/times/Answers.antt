use Rattle.std.proofs.Common.{◌≡◌, ℕ, ◌+◌, ◌*◌, ◌/◌, ◌%◌, ap, ◌∙◌, arith}
use Rattle.interleaver.proofs.adding.times.Goals as goal
use Rattle.interleaver.proofs.adding.times.Goals.{then-left-eq1, else-left-eq1}

-- the lowest bit of what is left, and the rest of it
halved : (left part : ℕ) → left * part ≡ left / 2 * (2 * part) + left % 2 * part
halved left part =
    let e : left ≡ 2 * (left / 2) + left % 2 = omega arith in
    ap (λ (y : ℕ). y * part) e ∙ grind arith

pub loop-left-preserved : goal.loop-left-preserved
loop-left-preserved c =
    let at = c.loop-left in
    let cut = halved at.left at.part in
    elim c.if-left-eq1.branch [
      | then-left-eq1 w ↦ omega (arith, cut, ap (λ (bit : ℕ). bit * at.part) w.if-left-eq1.true)
      | else-left-eq1 w ↦
          let none : at.left % 2 ≡ 0 = omega (arith, w.if-left-eq1.false) in
          omega (arith, cut, ap (λ (bit : ℕ). bit * at.part) none)
    ]
