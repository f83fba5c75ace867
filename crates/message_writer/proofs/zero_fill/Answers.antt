-- Nothing is laid on a refusal, and zeros alone otherwise. Assumes nothing.
use Rattle.std.proofs.Common.{arith, length-drop}
use Rattle.lists.proofs.Over.{over-nil, put_mid-over}
use Rattle.lists.proofs.Parts.{part_rest}
use Rattle.message_writer.proofs.Bytes.{length-zeros}
use Rattle.message_writer.proofs.Ways.{fill_past, fill_done}
use Rattle.message_writer.proofs.zero_fill.Goals as goal

pub returns-then-start-datagram : goal.returns-then-start-datagram
returns-then-start-datagram c = grind (arith, over-nil, fill_past)

pub returns : goal.returns
returns c = grind (arith, fill_done, put_mid-over, part_rest, length-drop, length-zeros, c.fill.ensures.after (λ y e. e))
