-- What is shown of messages that are laid one behind the other, and of the walk that finds them.
-- Assumes nothing.
use mathlib.Core.Path.{◌≡◌, refl, sym, ap, subst, ◌∙◌}
use mathlib.Core.Bool.{true}
use mathlib.Core.List.{List, [], ◌∷◌, ◌++◌, map}
use Prim.Native.Nat.{ℕ, ◌+◌, ◌≤◌}
use native.Mathlib.Nat.{add-zero}
use native.Mathlib.Omega.{arith}
use lib.ListN.{length, take, drop, replicate, length-append}
use Rattle.lists.specs.Every.{every}
use Rattle.lists.specs.Over.{over}
use Rattle.lists.proofs.Over.{over-nil, over-over, over-all, over-length}
use Rattle.lists.proofs.Tests.{both_true}
use Rattle.answers.proofs.Wrote.{told, held}
use Rattle.messages.specs.declared.Step.{Step}
use Rattle.messages.specs.Step.{finished}
use Rattle.messages.specs.Walk.{Walks}
use Rattle.message_writer.specs.declared.Laid.{Laid}
use Rattle.message_writer.specs.Message.{message_of}
use Rattle.message_writer.specs.Calls.{write_message}
use Rattle.message_writer.specs.Several.{Message, is_message, bytes_of_all, steps_of}
use Rattle.message_writer.proofs.Bytes.{length-message, length-zeros}
use Rattle.message_writer.proofs.Several.{message-good, is_typed, is-short, all-walk, all_found}
use Rattle.message_writer.proofs.Ways as w
use Rattle.claims.specs.Calls.{WroteMessage, ZeroFilled, LaidAll, laid_none, laid_next}
use Rattle.claims.proofs.Laying.{status, count}
use Rattle.claims.proofs.Writing.{stands, filled_in, zeros-laid}

-- messages that were laid are good ones, and their bytes stand one behind the other
pub record AllStand (place : ℕ) (messages : List Message) (old new : List ℕ) (end : ℕ) : Type 0 where
  pub good : every is_message messages ≡ true
  pub ends : end ≡ place + length (bytes_of_all messages)
  pub room : end ≤ length old
  pub laid : new ≡ over place (bytes_of_all messages) old

pub all-stand : {place end : ℕ} {messages : List Message} {old new : List ℕ} → place ≤ length old → LaidAll place messages old new end → AllStand place messages old new end
unfolding every bytes_of_all
all-stand {place} {old = old} h laid_none = record { good = refl; ends = sym (add-zero place); room = h; laid = sym (over-nil place old) }
all-stand {place} {messages = m ∷ messages} {old} h (laid_next {mid = mid} {answer = answer} wr z rest) =
    let p = message_of m.type m.source m.body in
    let q = bytes_of_all messages in
    let s = stands place m.type m.source m.body old mid answer wr z in
    let long = length-message m.type m.source m.body in
    let room : place + length p ≤ length old = omega (arith, s.room, long) in
    let same : length mid ≡ length old = ap length s.laid ∙ over-length place p old room in
    let onward = all-stand (omega (arith, s.room, s.counts, same)) rest in
    let next : place + answer.count ≡ place + length p = omega (arith, s.counts, long) in
    record {
      good = rw (message-good m s.typed s.short) onward.good;
      ends = omega (arith, onward.ends, next, length-append p q);
      room = omega (arith, onward.room, same);
      laid = onward.laid ∙ rw (next, s.laid) (over-over place p q old room);
    }

-- every list that fits is laid
pub list-laid : (messages : List Message) → every is_message messages ≡ true → (place : ℕ) (old : List ℕ) → place + length (bytes_of_all messages) ≤ length old
    → (new : List ℕ) × LaidAll place messages old new (place + length (bytes_of_all messages))
unfolding every bytes_of_all
list-laid [] ok place old room = (old, rw add-zero laid_none)
list-laid (m ∷ messages) ok place old room =
    let p = message_of m.type m.source m.body in
    let q = bytes_of_all messages in
    let outcome = write_message place m.type m.source m.body (length old) in
    let mid = over place outcome.bytes old in
    let wr : WroteMessage place m.type m.source m.body old mid outcome.answer = record { answers = refl; leaves = refl } in
    let good = both_true (is_message m) (every is_message messages) ok in
    let both = length-append p q in
    let long = length-message m.type m.source m.body in
    let e = w.write_done place m.type m.source m.body (length old) (omega (arith, room)) (is_typed m good.0) (is-short m good.0) (omega (arith, room, both, long)) in
    let counts = told wr count e in
    let same : length mid ≡ length old = ap length (held wr e) ∙ over-length place p old (omega (arith, room, both)) in
    let rest = list-laid messages good.1 (place + outcome.answer.count) mid (omega (arith, room, both, counts, same)) in
    let end : place + outcome.answer.count + length q ≡ place + length (p ++ q) = omega (arith, counts, both) in
    (rest.0, subst (LaidAll place (m ∷ messages) old rest.0) end (laid_next {new = rest.0} wr (told wr status e) rest.1))

-- with the rest zero-filled
module _ (messages : List Message) (old mid new : List ℕ) (end : ℕ) (answer : Laid) (laid : LaidAll 0 messages old mid end) (fill : ZeroFilled end mid new answer) where
  all : AllStand 0 messages old mid end
  all = all-stand (omega arith) laid

  pub list-bytes : new ≡ bytes_of_all messages ++ replicate answer.count 0
  list-bytes =
      let p = bytes_of_all messages in
      let zs = replicate {A = ℕ} answer.count 0 in
      let room : 0 + length p ≤ length old = omega (arith, all.ends, all.room) in
      let same : length mid ≡ length old = ap length all.laid ∙ over-length 0 p old room in
      let inside : end ≤ length mid = omega (arith, all.room, same) in
      let size : length (p ++ zs) ≡ length old = length-append p zs ∙ omega (arith, length-zeros answer.count, (filled_in end mid new answer fill inside).1, all.ends, same) in
      zeros-laid end mid new answer fill inside ∙ rw (all.ends, all.laid) (over-over 0 p zs old room ∙ over-all (p ++ zs) old size)

  pub list_stepped : Walks new 0 (steps_of 0 messages) finished
  list_stepped = all-walk new messages all.good answer.count list-bytes

  pub list_places : map (λ (step : Step). take step.length (drop step.start new)) (steps_of 0 messages) ≡ map (λ (m : Message). message_of m.type m.source m.body) messages
  list_places = all_found new messages 0 _ list-bytes
