-- Both refusals come before the row is laid. Assumes nothing.
use mathlib.Core.Path.{◌≡◌, refl, sym, ap, ap₂, ◌∙◌}
use mathlib.Core.List.{List, map, ◌++◌}
use lib.Seq.{length-take-le}
use Prim.Native.Nat.{ℕ}
use lib.ListN.{length, drop}
use Rattle.lists.proofs.Over.{over_zero}
use Rattle.answers.specs.Written.{wrote}
use Rattle.answers.proofs.Wrote.{refuses, lays}
use Rattle.bits.specs.Bits.{byte}
use Rattle.bits.specs.Row.{high_first}
use Rattle.words.specs.Word.{word_bits}
use Rattle.words.proofs.Calls.{write_high, write-short, write_done, length-word}
use Rattle.words.proofs.write.Goals as goal

pub returns-then-number-gt63 : goal.returns-then-number-gt63
returns-then-number-gt63 c = refuses (write_high c.args.number (length c.args.out.now) c.if-number-gt63.true) refl

pub returns-then-out-lt32 : goal.returns-then-out-lt32
returns-then-out-lt32 c = refuses (write-short c.args.number (length c.args.out.now) c.if-number-gt63.false c.if-out-lt32.true) refl

pub returns : goal.returns
returns c =
    let n = c.args.number in
    let out = c.args.out.now in
    let word : c.lay_bits.new.row ≡ map byte (word_bits n) = c.lay_bits.ensures ∙ ap₂ (λ (k w : ℕ). map byte (high_first k w)) (length-take-le 32 out c.if-out-lt32.false) c.word_of.ensures in
    lays
    (write_done n (length out) c.if-number-gt63.false c.if-out-lt32.false)
    (ap wrote (sym (length-word n)))
    (rw (over_zero (map byte (word_bits n)) out, length-word n) (ap (λ (row : List ℕ). row ++ drop 32 out) word))
