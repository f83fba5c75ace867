-- What is shown of bursts that come in parts, from the laws of the crate `parts`: they are read as the whole is.
-- Assumes nothing.
use mathlib.Core.Path.{◌≡◌, refl, sym, ◌∙◌}
use mathlib.Core.Logic.{◌↔◌}
use mathlib.Core.List.{List, []}
use Prim.Native.Nat.{ℕ, ◌<◌, min}
use native.Mathlib.Omega.{arith}
use lib.ListN.{length, take}
use Rattle.slots.specs.declared.Slot.{Slot}
use Rattle.slots.specs.Calls.{read_slot}
use Rattle.parts.specs.State.{longest, stop, State, state, fresh, heard}
use Rattle.parts.specs.Taking.{TookPart, joined, TookAll}
use Rattle.parts.specs.Asking.{ReadParts}
use Rattle.parts.proofs.Growing.{full}
use Rattle.parts.proofs.Hearing.{too_long}
use Rattle.parts.proofs.Holding.{Holds, fresh_holds, took_holds, reads-as-whole}
use Rattle.claims.specs.Calls.{ReadSlot, CameInParts}
use Rattle.claims.proofs.Endings.{determined}
use Rattle.claims.proofs.Slots as slots

-- what the state holds once the parts are taken
held : (parts : List (List ℕ)) (after : State) → TookAll parts fresh after → Holds (joined parts) after
held parts after took = took_holds parts [] fresh after fresh_holds took

pub kept : (parts : List (List ℕ)) (after : State) → TookAll parts fresh after
    → (after.count ≡ min (length (joined parts)) stop) × (take after.count after.bits ≡ take longest (joined parts))
kept parts after took = let h = held parts after took in (h.number, sym h.front)

module _ (parts : List (List ℕ)) (before : State) (took : TookAll parts fresh before) (old new : List ℕ) (answer : Slot) where
  as-whole : read_slot (heard before) (length old) ≡ read_slot (joined parts) (length old)
  as-whole = reads-as-whole (joined parts) before (held parts before took) (length old)

  pub whole : ReadParts before fresh old new answer ↔ ReadSlot (joined parts) old new answer
  whole = (λ asked. rw as-whole at asked.reads, λ wrote. record { reads = rw (← as-whole) at wrote; leaves = refl })

-- a burst that came in parts was read
pub read : (burst old new : List ℕ) (answer : Slot) → CameInParts burst old new answer → ReadSlot burst old new answer
read burst old new answer c = rw (← c.cut, ← as-whole c.parts c.before c.took old new answer) c.asked.reads

pub cutting : (burst old old' new new' : List ℕ) (answer answer' : Slot) → length old ≡ length old' → CameInParts burst old new answer → CameInParts burst old' new' answer'
    → (answer ≡ answer') × (take answer.count new ≡ take answer.count new')
cutting burst old old' new new' answer answer' l c c' =
    determined (slots.ends burst (length old)) (read burst old new answer c) (rw (← l) at (read burst old' new' answer' c'))

-- ---- a count above the stop
pub forged : (count : ℕ) (bits : List ℕ) → length bits ≡ longest → stop < count → (after : State) (old new : List ℕ) (answer : Slot)
    → ReadParts (state count bits) after old new answer ↔ ReadParts (state stop bits) after old new answer
forged count bits e h after old new answer =
    let same : heard (state count bits) ≡ heard (state stop bits) = too_long count bits e (omega arith) ∙ sym (too_long stop bits e (omega arith)) in
    (λ r. record { reads = rw same at r.reads; leaves = r.leaves }, λ r. record { reads = rw (← same) at r.reads; leaves = r.leaves })

pub forged_on : (count : ℕ) (bits part : List ℕ) → stop < count → (after : State) → TookPart part (state count bits) after → after ≡ state stop bits
forged_on count bits part h after took = took ∙ sym (full count bits part (omega arith))
