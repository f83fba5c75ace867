-- A call that lays from a start on ends as any other does (`Endings`): it refuses, or it lays its bytes inside the buffer. What follows of it.
-- Assumes nothing.
use mathlib.Core.Path.{◌≡◌, refl, sym, ap, ◌∙◌}
use mathlib.Core.List.{List}
use Prim.Native.Nat.{ℕ, ◌+◌, ◌-◌, ◌≤◌}
use native.Mathlib.Omega.{arith}
use lib.ListN.{length, take, drop, replicate}
use Rattle.lists.proofs.Over.{over-nil}
use Rattle.answers.specs.Numbers.{done, no_room, past_end, no_type, long_body}
use Rattle.answers.specs.Outcome.{Outcome, WroteAt}
use Rattle.answers.proofs.Determined as d
use Rattle.answers.proofs.Wrote.{said, told, held}
use Rattle.message_writer.specs.declared.Laid.{Laid}
use Rattle.message_writer.specs.Message.{message_of}
use Rattle.message_writer.specs.Calls.{refused, laying, write_message, zero_fill}
use Rattle.message_writer.proofs.Bytes.{length-message, length-zeros}
use Rattle.message_writer.proofs.Ways as w
use Rattle.claims.proofs.Endings.{Kind, Ends, refuses, answers, counted, refused-with}

abbrev pub status : Laid → ℕ
status answer = answer.status

abbrev pub count : Laid → ℕ
count answer = answer.count

-- bytes that have room from a start on
pub record Fitting (start room : ℕ) : Type 0 where
  pub bytes : List ℕ
  pub fits : start + length bytes ≤ room

abbrev pub layers : (start room : ℕ) → Kind Laid (Fitting start room)
layers start room = record {
  status = status;
  count = count;
  refused = refused;
  given = λ way. laying way.bytes;
  numbered = λ number. refl;
  uncounted = λ number. refl;
  is-done = λ way. refl;
  counts = λ way. refl;
}

pub message-ends : (start type source : ℕ) (body : List ℕ) (room : ℕ) → Ends (layers start room) (write_message start type source body room)
message-ends start type source body room = goes (w.writing-goes start type source body room)
  where
    goes : w.Writing start type source body room → Ends (layers start room) (write_message start type source body room)
    goes (w.past h e) = refuses past_end (λ z. omega (arith, z)) e
    goes (w.no_type_lem i t e) = refuses no_type (λ z. omega (arith, z)) e
    goes (w.too_long i t h e) = refuses long_body (λ z. omega (arith, z)) e
    goes (w.too_short i t s h e) = refuses no_room (λ z. omega (arith, z)) e
    goes (w.writes i t s h e) = answers (record { bytes = message_of type source body; fits = omega (arith, h, length-message type source body) }) e

pub fill_ends : (start room : ℕ) → Ends (layers start room) (zero_fill start room)
fill_ends start room = goes (w.filling_goes start room)
  where
    goes : w.Filling start room → Ends (layers start room) (zero_fill start room)
    goes (w.beyond h e) = refuses past_end (λ z. omega (arith, z)) e
    goes (w.fills h e) = answers (record { bytes = replicate (room - start) 0; fits = omega (arith, h, length-zeros (room - start)) }) e

module _ {start room : ℕ} {outcome : Outcome Laid} (ends : Ends (layers start room) outcome) where
  pub refused_none : {old new : List ℕ} {answer : Laid} → WroteAt start outcome old new answer → (answer.status ≡ done → ⊥) → (answer.count ≡ 0) × (new ≡ old)
  refused_none wr z = let r = refused-with ends wr z in (ap count r.1, r.2)

  pub around : {old new : List ℕ} {answer : Laid} → length old ≡ room → WroteAt start outcome old new answer
      → (take start new ≡ take start old) × (drop (start + answer.count) new ≡ drop (start + answer.count) old)
  around {old} {new} {answer} l wr = goes ends
    where
      goes : Ends (layers start room) outcome → (take start new ≡ take start old) × (drop (start + answer.count) new ≡ drop (start + answer.count) old)
      goes (refuses number h e) = let same = held wr e ∙ over-nil start old in (rw same refl, rw same refl)
      goes (answers way e) =
          let inside : start ≤ length old = omega (arith, way.fits, l) in
          (d.before count outcome (counted ends) wr inside, d.behind-piece count outcome (counted ends) wr inside)

  pub determined : {old old' new new' : List ℕ} {answer answer' : Laid} → length old ≡ room → length old' ≡ room
      → WroteAt start outcome old new answer → WroteAt start outcome old' new' answer'
      → (answer ≡ answer') × (take answer.count (drop start new) ≡ take answer.count (drop start new'))
  determined {new = new} {new' = new'} {answer = answer} {answer' = answer'} l l' wr wr' = goes ends
    where
      goes : Ends (layers start room) outcome → (answer ≡ answer') × (take answer.count (drop start new) ≡ take answer.count (drop start new'))
      goes (refuses number h e) = (said wr e ∙ sym (said wr' e), rw (told wr count e) refl)
      goes (answers way e) = d.determined_at count outcome (counted ends) (omega (arith, way.fits, l)) (omega (arith, way.fits, l')) wr wr'
