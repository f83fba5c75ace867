-- Every entry is what antt computes from the definition. Assumes nothing.
use mathlib.Core.Path.{refl}
use Rattle.bits.specs.Row.{high_first}
use Rattle.bits.specs.Xor.{◌⊕◌}
use Rattle.check32.specs.Working.Bytes.{marks_from, byte_marks}
use Rattle.check32.specs.Check.{times_x, step, register_from}
use Rattle.check32.proofs.bytes.marks.Goals as goal

pub returns : goal.returns
unfolding byte_marks marks_from high_first ◌⊕◌ times_x step register_from
returns c = refl
