-- The block's cells are its bits, and where it is refused the number is the reader's. Assumes nothing.
use Rattle.std.proofs.Common.{◌≡◌, Result, Ok, Err, IfErr, refl, arith}
use Rattle.std.proofs.lemmas.List.{map-id}
use Rattle.lists.specs.Over.{over}
use Rattle.answers.specs.Numbers.{no_block}
use Rattle.answers.specs.declared.Refusal.{Refusal}
use Rattle.answers.specs.declared.Refusal.TheVariants.{NoBlock}
use Rattle.answers.specs.Working.Refusals.{number_of}
use Rattle.blocks.specs.declared.Found.{Found}
use Rattle.blocks.specs.Working.Answer.{block_answer}
use Rattle.accepting.specs.Working.Within.{numbered}
use Rattle.block_reader.proofs.Candidate.{candidate_laws}
use Rattle.block_reader.proofs.read_with.Goals as goal

named : (result : Result Found Refusal) (refusal : Refusal) → IfErr result (λ given. given ≡ refusal) → numbered (number_of refusal) result ≡ block_answer result
named (Ok found) refusal e = refl
named (Err given) refusal e = rw e

pub returns-then-not-over_zero : goal.returns-then-not-over_zero
unfolding over
returns-then-not-over_zero c =
    let zero = rw (map-id c.mend.new.u) at c.over_zero.ensures in
    grind (arith, candidate_laws, zero)

pub returns : goal.returns
returns c =
    let zero = rw (map-id c.mend.new.u) at c.over_zero.ensures in
    let wrote = c.accept.ensures.answers no_block in
    let told = named c.accept.result NoBlock c.accept.ensures.refuses in
    grind (arith, candidate_laws, zero, wrote, told)
