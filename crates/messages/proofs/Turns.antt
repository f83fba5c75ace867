-- What a turn says, carried over a byte that is passed over.
-- Assumes nothing.
use mathlib.Core.Path.{◌≡◌, sym, ◌∙◌}
use mathlib.Core.List.{List}
use Prim.Native.Nat.{ℕ, ◌+◌, ◌<◌}
use native.Mathlib.Omega.{arith}
use lib.ListN.{length, get_or}
use Rattle.std.specs.Prelude.{Option, Result}
use Rattle.std.specs.declared.ops.ControlFlow.{ControlFlow}
use Rattle.std.specs.declared.ops.ControlFlow.TheVariants.{Break, Continue}
use Rattle.messages.specs.declared.Fault.{Fault}
use Rattle.messages.specs.declared.Message.{Message}
use Rattle.messages.specs.Working.Turn.{Says}
use Rattle.messages.proofs.Ways.{step-passes}

module _ (datagram : List ℕ) (place : ℕ) (h : place < length datagram) (e : get_or datagram place 0 ≡ 81) where
  pub passed : (turn : ControlFlow (Result (Option Message) Fault) ℕ) → Says datagram (place + 1) turn → Says datagram place turn
  passed (Break outcome) says = says ∙ sym (step-passes datagram place h e)
  passed (Continue next) says = (h, omega (arith, says.1), says.2 ∙ sym (step-passes datagram place h e))

  pub used_up : Says datagram place (Continue (place + 1))
  used_up = (h, omega arith, sym (step-passes datagram place h e))
