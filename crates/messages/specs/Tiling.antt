-- How the messages that stepping finds lie in the datagram, and what stands where it ended.
use Rattle.std.specs.Prelude.{◌≡◌, List, [], ◌∷◌, ◌++◌, ℕ, ◌+◌, ◌-◌, ◌≤◌, length, take, drop, replicate}
use Rattle.answers.specs.Numbers.{broken_fill}
use Rattle.messages.specs.declared.Step.{Step}
use Rattle.messages.specs.Places.{PassedOver, Behind, NoneLeft, Spoilt, LieAt, Whole}
use Rattle.messages.specs.Step.{refused, finished, message, lie}

-- whole messages, with nothing but 81s before and between them, from one position to another
pub data Tiles (datagram : List ℕ) : ℕ → List Step → ℕ → Type 0 where
  none : {position : ℕ} → Tiles datagram position [] position
  next : {from start to total : ℕ} {found : List Step} → PassedOver datagram from start → Whole datagram start total → Tiles datagram (start + total) found to
      → Tiles datagram from (message start total ∷ found) to

-- such messages lead to a place, with nothing but 81s behind the last one
abbrev pub Leads : List ℕ → ℕ → List Step → ℕ → Type 0
Leads datagram from found place = (end : ℕ) × Tiles datagram from found end × PassedOver datagram end place

-- what stands behind the position where stepping ended, and the answer there
pub data Stops (datagram : List ℕ) (position : ℕ) (last : Step) : Type 0 where
  at-end : NoneLeft datagram position → last ≡ finished → Stops datagram position last
  at_spoilt : Behind datagram position (Spoilt datagram) → last ≡ refused broken_fill → Stops datagram position last
  at-lie : (start number missing : ℕ) → PassedOver datagram position start → LieAt datagram start number missing → last ≡ lie number start missing → Stops datagram position last

-- the messages found lie so from one position to the one where stepping ended
pub record Tiled (datagram : List ℕ) (from : ℕ) (found : List Step) (last : Step) : Type 0 where
  pub end : ℕ
  pub inside : end ≤ length datagram
  pub tiles : Tiles datagram from found end
  pub rest : Stops datagram end last

-- the bytes from a position through messages: 81s up to each, and its own
unfoldable pub bytes_of : List ℕ → ℕ → List Step → List ℕ
bytes_of datagram position [] = []
bytes_of datagram position (m ∷ found) =
    replicate (m.start - position) 81 ++ take m.length (drop m.start datagram) ++ bytes_of datagram (m.start + m.length) found
