-- The five ways a step goes, each with what stands behind the bytes that it passes over and with the answer (document 01, "Messages in a
-- datagram" and "Numbers a caller gets back"; document 02, K1 and K3).
use Rattle.std.specs.Prelude.{◌≡◌, List, ℕ, ◌<◌, length}
use Rattle.answers.specs.Numbers.{past_end, broken_fill}
use Rattle.messages.specs.Places.{PassedOver, Behind, NoneLeft, Spoilt, LieAt, Whole}
use Rattle.messages.specs.Step.{refused, finished, message, lie, step_message}

pub data Stepping (datagram : List ℕ) (position : ℕ) : Type 0 where
  past : length datagram < position → step_message datagram position ≡ refused past_end → Stepping datagram position
  ends : NoneLeft datagram position → step_message datagram position ≡ finished → Stepping datagram position
  spoils : Behind datagram position (Spoilt datagram) → step_message datagram position ≡ refused broken_fill → Stepping datagram position
  lies : (start number missing : ℕ) → PassedOver datagram position start → LieAt datagram start number missing → step_message datagram position ≡ lie number start missing → Stepping datagram position
  finds : (start total : ℕ) → PassedOver datagram position start → Whole datagram start total → step_message datagram position ≡ message start total → Stepping datagram position
