-- What is answered for a block that is proposed for what came.
use Rattle.std.specs.Prelude.{Bool, cond, List, ℕ, leb, Result, Ok, Err}
use Rattle.answers.specs.Numbers.{done}
use Rattle.answers.specs.Outcome.{Outcome}
use Rattle.bits.specs.Row.{differences}
use Rattle.links.specs.declared.Row.{Row}
use Rattle.blocks.specs.declared.Block.{Block}
use Rattle.blocks.specs.declared.Found.{Found}
use Rattle.blocks.specs.Block.{image_of, datagram_of}
use Rattle.blocks.specs.Calls.{refused, reading}

-- its datagram and the true count where its image is within a limit, else a refusal; the caller chooses both
unfoldable pub within : ℕ → ℕ → Row → List Bool → List Bool → Outcome Block
within limit number row came u =
    cond (leb (differences (image_of row u) came) limit) (reading (datagram_of row u) (differences (image_of row u) came)) (refused number)

-- an answer as C gets it, where a refusal, whatever it is, has a number
abbrev pub numbered : {E : Type 0} → ℕ → Result Found E → Block
numbered number (Ok found) = record { status = done; count = found.count; wrong = found.wrong }
numbered number (Err refusal) = (refused number).answer
