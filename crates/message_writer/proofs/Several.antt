-- Messages that stand one behind the other are what stepping finds, and behind them, where zeros alone are left, it is finished.
-- Assumes nothing.
use mathlib.Core.Path.{◌≡◌, refl, sym, ap, ap₂, subst, ◌∙◌}
use mathlib.Core.Bool.{true, false, not}
use mathlib.Core.List.{List, [], ◌∷◌, ◌++◌, map, append_assoc}
use Prim.Native.Nat.{ℕ, ◌+◌, ◌≤◌}
use native.Mathlib.Nat.{add-zero}
use native.Mathlib.Omega.{arith}
use lib.ListN.{length, take, drop, replicate, length-append}
use lib.Seq.{take_at, drop_at, drop-drop}
use borrow.Author.Tests.{leb-true, le-leb, not-true}
use Rattle.lists.specs.Every.{every}
use Rattle.lists.proofs.Every.{every-replicate}
use Rattle.lists.proofs.Tests.{both_true}
use Rattle.messages.specs.Fill.{is_zero}
use Rattle.messages.specs.Places.{NoneLeft}
use Rattle.messages.specs.declared.Step.{Step}
use Rattle.messages.specs.Step.{finished}
use Rattle.messages.specs.Tiling.{Tiles, none, next}
use Rattle.messages.specs.Walk.{Walks}
use Rattle.messages.proofs.Places.{passed_none, only_from}
use Rattle.messages.proofs.Stepping.{finished_exact}
use Rattle.messages.proofs.Tiling.{tiles-walk}
use Rattle.message_writer.specs.Message.{is_no_type, longest_body, total_of, message_of}
use Rattle.message_writer.specs.Several.{Message, is_message, bytes_of_all, steps_of}
use Rattle.message_writer.proofs.Bytes.{length-message}
use Rattle.message_writer.proofs.Standing.{whole}

-- what the test of a message says
pub is_typed : (m : Message) → is_message m ≡ true → is_no_type m.type ≡ false
is_typed m e = not-true _ (both_true (not (is_no_type m.type)) _ e).0

pub is-short : (m : Message) → is_message m ≡ true → length m.body ≤ longest_body
is-short m e = leb-true _ _ (both_true (not (is_no_type m.type)) _ e).1

pub message-good : (m : Message) → is_no_type m.type ≡ false → length m.body ≤ longest_body → is_message m ≡ true
message-good m typed short = rw (typed, le-leb (length m.body) longest_body short)

abbrev bytes_of : Message → List ℕ
bytes_of m = message_of m.type m.source m.body

long : (m : Message) → length (bytes_of m) ≡ total_of m.body
long m = length-message m.type m.source m.body

module _ (datagram : List ℕ) where
  -- the next message stands where this one ends
  next_place : (m : Message) (place : ℕ) (behind : List ℕ) → drop place datagram ≡ bytes_of m ++ behind → drop (place + total_of m.body) datagram ≡ behind
  next_place m place behind here =
      let total = total_of m.body in
      sym (drop-drop total place datagram) ∙ ap (drop total) here ∙ drop_at (bytes_of m) behind total (long m)

  pub all_tile : (messages : List Message) → every is_message messages ≡ true → (place : ℕ) (rest : List ℕ) → place ≤ length datagram → drop place datagram ≡ bytes_of_all messages ++ rest
      → Tiles datagram place (steps_of place messages) (place + length (bytes_of_all messages))
  unfolding every bytes_of_all steps_of
  all_tile [] ok place rest h e = rw add-zero none
  all_tile (m ∷ messages) ok place rest h e =
      let total = total_of m.body in
      let behind = bytes_of_all messages ++ rest in
      let good = both_true (is_message m) (every is_message messages) ok in
      let here : drop place datagram ≡ bytes_of m ++ behind = e ∙ append_assoc (bytes_of m) (bytes_of_all messages) rest in
      let w = whole m.type m.source m.body datagram place behind here (is_typed m good.0) (is-short m good.0) in
      let end : place + total + length (bytes_of_all messages) ≡ place + length (bytes_of m ++ bytes_of_all messages) = omega (arith, length-append (bytes_of m) (bytes_of_all messages), long m) in
      subst (Tiles datagram place (steps_of place (m ∷ messages))) end (next (passed_none datagram place h) w (all_tile messages good.1 (place + total) rest w.ends (next_place m place behind here)))

  -- where a step finds one, its bytes stand
  pub all_found : (messages : List Message) (place : ℕ) (rest : List ℕ) → drop place datagram ≡ bytes_of_all messages ++ rest
      → map (λ (step : Step). take step.length (drop step.start datagram)) (steps_of place messages) ≡ map bytes_of messages
  unfolding bytes_of_all steps_of
  all_found [] place rest e = refl
  all_found (m ∷ messages) place rest e =
      let behind = bytes_of_all messages ++ rest in
      let here = e ∙ append_assoc (bytes_of m) (bytes_of_all messages) rest in
      ap₂ ◌∷◌ (ap (take (total_of m.body)) here ∙ take_at (bytes_of m) behind (total_of m.body) (long m)) (all_found messages (place + total_of m.body) rest (next_place m place behind here))

  -- from the start on, with zeros alone behind them
  pub all-walk : (messages : List Message) → every is_message messages ≡ true → (n : ℕ) → datagram ≡ bytes_of_all messages ++ replicate n 0 → Walks datagram 0 (steps_of 0 messages) finished
  all-walk messages ok n e =
      let end = 0 + length (bytes_of_all messages) in
      let inside : end ≤ length datagram = omega (arith, ap length e, length-append (bytes_of_all messages) (replicate n 0)) in
      let left : drop end datagram ≡ replicate n 0 = ap (drop end) e ∙ drop_at (bytes_of_all messages) (replicate n 0) end (omega arith) in
      let zeros : NoneLeft datagram end = (end, passed_none datagram end inside, only_from datagram end (rw left (every-replicate is_zero n 0 refl))) in
      tiles-walk datagram (all_tile messages ok 0 (replicate n 0) (omega arith) e) ((finished_exact datagram end).1 zeros) refl
