-- What stands at a position of a datagram, in the words of document 01 ("Messages in a datagram", and the numbers of a step) and of
-- document 02's K1 and K3: what the claims hold a step against.
use Rattle.std.specs.Prelude.{◌≡◌, List, ℕ, ◌+◌, ◌-◌, ◌*◌, ◌<◌, ◌≤◌, length, get_or}
use Rattle.answers.specs.Numbers.{small_length, few_left, message_past_end}

abbrev pub byte_at : List ℕ → ℕ → ℕ
byte_at datagram place = get_or datagram place 0

-- all bytes from a position to a place are 81: a step passes over them. There may be none
pub record PassedOver (datagram : List ℕ) (position place : ℕ) : Type 0 where
  pub onward : position ≤ place
  pub inside : place ≤ length datagram
  pub each : (n : ℕ) → position ≤ n → n < place → byte_at datagram n ≡ 81

-- behind bytes that are passed over something stands
abbrev pub Behind : List ℕ → ℕ → (ℕ → Type 0) → Type 0
Behind datagram position Stands = (place : ℕ) × PassedOver datagram position place × Stands place

-- all bytes from a place on are 0; at the end there are none
abbrev pub ZerosFrom : List ℕ → ℕ → Type 0
ZerosFrom datagram place = (n : ℕ) → place ≤ n → n < length datagram → byte_at datagram n ≡ 0

-- no message is left: 81s alone, and then zeros alone
abbrev pub NoneLeft : List ℕ → ℕ → Type 0
NoneLeft datagram position = Behind datagram position (ZerosFrom datagram)

-- the zero fill begins at a place, and behind it comes a byte other than 0
pub record Spoilt (datagram : List ℕ) (place : ℕ) : Type 0 where
  pub zero : byte_at datagram place ≡ 0
  pub other : ℕ
  pub behind : place < other
  pub inside : other < length datagram
  pub differs : byte_at datagram other ≡ 0 → ⊥

-- a message begins at a place
pub record Begins (datagram : List ℕ) (place : ℕ) : Type 0 where
  pub inside : place < length datagram
  pub no_fill : byte_at datagram place ≡ 81 → ⊥
  pub no_zero : byte_at datagram place ≡ 0 → ⊥

-- the total length that it declares: the two bytes after its type, high byte first
abbrev pub total_at : List ℕ → ℕ → ℕ
total_at datagram place = byte_at datagram (place + 1) * 256 + byte_at datagram (place + 2)

-- the three lies of a message: fewer than 3 bytes left; length below 7; past the end
abbrev pub FewLeft : List ℕ → ℕ → Type 0
FewLeft datagram place = length datagram < place + 3

abbrev pub SmallLength : List ℕ → ℕ → Type 0
SmallLength datagram place = total_at datagram place < 7

abbrev pub MessagePastEnd : List ℕ → ℕ → Type 0
MessagePastEnd datagram place = length datagram < place + total_at datagram place

-- they are tested in this order, so each is told where none before it holds: its number, and how many bytes are missing
pub data Tells (datagram : List ℕ) (place : ℕ) : ℕ → ℕ → Type 0 where
  few_left_lie : FewLeft datagram place → Tells datagram place few_left 0
  small_length_lie : (FewLeft datagram place → ⊥) → SmallLength datagram place → Tells datagram place small_length 0
  past_the_end : (FewLeft datagram place → ⊥) → (SmallLength datagram place → ⊥) → MessagePastEnd datagram place
      → Tells datagram place message_past_end (place + total_at datagram place - length datagram)

-- a message begins that tells a lie
abbrev pub LieAt : List ℕ → ℕ → ℕ → ℕ → Type 0
LieAt datagram place number missing = Begins datagram place × Tells datagram place number missing

-- a message of a total length starts at a place: it is as long as it declares, at least 7, and ends inside the datagram
pub record Whole (datagram : List ℕ) (place total : ℕ) : Type 0 where
  pub begins : Begins datagram place
  pub declares : total ≡ total_at datagram place
  pub least : 7 ≤ total
  pub ends : place + total ≤ length datagram
