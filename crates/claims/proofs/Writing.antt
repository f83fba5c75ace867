-- What is shown of one message that is laid, and of zero fill, from the laws of the crates `message_writer` and `messages`.
-- Assumes nothing.
use mathlib.Core.Path.{◌≡◌, refl, sym, ap, ◌∙◌}
use mathlib.Core.Logic.{◌⊎◌, inl, inr}
use mathlib.Core.Bool.{false}
use mathlib.Core.List.{List, ◌++◌}
use Prim.Native.Nat.{ℕ, ◌+◌, ◌-◌, ◌<◌, ◌≤◌}
use native.Mathlib.Omega.{arith}
use lib.ListN.{length, take, drop, replicate}
use Rattle.lists.specs.Over.{over}
use Rattle.lists.proofs.Over.{over-from}
use Rattle.answers.specs.Numbers.{done}
use Rattle.answers.specs.Outcome.{Outcome}
use Rattle.answers.proofs.Determined as d
use Rattle.answers.proofs.Wrote.{told, held}
use Rattle.messages.specs.declared.Step.{Step}
use Rattle.messages.specs.Places.{byte_at}
use Rattle.messages.specs.Step.{message}
use Rattle.messages.proofs.Places.{passed_none}
use Rattle.messages.proofs.Stepping.{found_exact}
use Rattle.message_writer.specs.declared.Laid.{Laid}
use Rattle.message_writer.specs.Message.{is_no_type, longest_body, total_of, message_of, source_at}
use Rattle.message_writer.specs.Calls.{laying, zero_fill}
use Rattle.message_writer.proofs.Bytes.{length-message, length-zeros}
use Rattle.message_writer.proofs.Standing as standing
use Rattle.message_writer.proofs.Types.{no_type_lem, is-type, other-type}
use Rattle.message_writer.proofs.Ways as w
use Rattle.claims.specs.Lines.{Given}
use Rattle.claims.specs.Calls.{WroteMessage, ZeroFilled, write_message_lines, zero_fill_lines, Stepped}
use Rattle.claims.proofs.Endings.{counted}
use Rattle.claims.proofs.Laying.{status, count, message-ends, fill_ends}

-- ---- a message
module _ (start type source : ℕ) (body old new : List ℕ) (answer : Laid) (wr : WroteMessage start type source body old new answer) where
  not_typed : is_no_type type ≡ false → ((type ≡ 0) ⊎ (type ≡ 81)) → ⊥
  not_typed t (inl z) = other-type type 0 t refl z
  not_typed t (inr f) = other-type type 81 t refl f

  pub message-number : Given (write_message_lines start type body (length old)) answer.status
  unfolding Given
  message-number = goes (w.writing-goes start type source body (length old))
    where
      goes : w.Writing start type source body (length old) → Given (write_message_lines start type body (length old)) answer.status
      goes (w.past h e) = inl (h, told wr status e)
      goes (w.no_type_lem i t e) = inr (λ k. omega (arith, i, k), inl (no_type_lem type t, told wr status e))
      goes (w.too_long i t h e) = inr (λ k. omega (arith, i, k), inr (not_typed t, inl (h, told wr status e)))
      goes (w.too_short i t s h e) = inr (λ k. omega (arith, i, k), inr (not_typed t, inr (λ k. omega (arith, s, k), inl (h, told wr status e))))
      goes (w.writes i t s h e) =
          inr (λ k. omega (arith, i, k), inr (not_typed t, inr (λ k. omega (arith, s, k), inr (λ k. omega (arith, h, k), told wr status e))))

  -- ---- a message that is laid
  pub record Stands : Type 0 where
    pub typed : is_no_type type ≡ false
    pub short : length body ≤ longest_body
    pub room : start + total_of body ≤ length old
    pub counts : answer.count ≡ total_of body
    pub laid : new ≡ over start (message_of type source body) old

  -- an answer 0 is given only then
  pub stands : answer.status ≡ done → Stands
  stands z = goes (w.writing-goes start type source body (length old))
    where
      goes : w.Writing start type source body (length old) → Stands
      goes (w.past h e) = absurd (omega (arith, z, told wr status e))
      goes (w.no_type_lem i t e) = absurd (omega (arith, z, told wr status e))
      goes (w.too_long i t h e) = absurd (omega (arith, z, told wr status e))
      goes (w.too_short i t s h e) = absurd (omega (arith, z, told wr status e))
      goes (w.writes i t s h e) = record { typed = t; short = s; room = h; counts = told wr count e ∙ length-message type source body; laid = held wr e }

  pub written : (type ≡ 0 → ⊥) → (type ≡ 81 → ⊥) → length body ≤ longest_body → start + total_of body ≤ length old
      → (answer.status ≡ done) × (answer.count ≡ total_of body) × (take answer.count (drop start new) ≡ message_of type source body)
  written z f s room =
      let e = w.write_done start type source body (length old) (omega (arith, room)) (is-type type z f) s room in
      let counts = counted (message-ends start type source body (length old)) in
      (told wr status e, told wr count e ∙ length-message type source body, d.piece count _ counts wr (omega (arith, room)) ∙ ap (λ (o : Outcome Laid). o.bytes) e)

  module _ (z : answer.status ≡ done) where
    -- its bytes stand from the start on
    bytes-stand : drop start new ≡ message_of type source body ++ drop (start + length (message_of type source body)) old
    bytes-stand = let s = stands z in rw s.laid (over-from start (message_of type source body) old (omega (arith, s.room)))

    pub steps_back : (step : Step) → Stepped new start step → step ≡ message start answer.count
    steps_back step e =
        let s = stands z in
        let whole = standing.whole type source body new start _ bytes-stand s.typed s.short in
        e ∙ ((found_exact new start start (total_of body)).1 (passed_none new start (omega (arith, whole.ends)), whole)).0 ∙ ap (message start) (sym s.counts)

    pub places : source < 4294967296 → (byte_at new start ≡ type) × (source_at new start ≡ source) × (take (length body) (drop (start + 7) new) ≡ body)
    places h =
        (standing.type_at type source body new start _ bytes-stand, standing.source_at_lem type source body new start _ bytes-stand h, standing.body_at type source body new start _ bytes-stand)

module _ (start : ℕ) (old new : List ℕ) (answer : Laid) (wr : ZeroFilled start old new answer) where
  pub fill_number : Given (zero_fill_lines start (length old)) answer.status
  unfolding Given
  fill_number = goes (w.filling_goes start (length old))
    where
      goes : w.Filling start (length old) → Given (zero_fill_lines start (length old)) answer.status
      goes (w.beyond h e) = inl (h, told wr status e)
      goes (w.fills h e) = inr (λ k. omega (arith, h, k), told wr status e)

  module _ (inside : start ≤ length old) where
    filled : zero_fill start (length old) ≡ laying (replicate (length old - start) 0)
    filled = w.fill_done start (length old) inside

    zeros : answer.count ≡ length old - start
    zeros = told wr count filled ∙ length-zeros (length old - start)

    pub zeros-laid : new ≡ over start (replicate answer.count 0) old
    zeros-laid = held wr filled ∙ ap (λ (n : ℕ). over start (replicate n 0) old) (sym zeros)

    pub filled_in : (answer.status ≡ done) × (start + answer.count ≡ length old) × (take answer.count (drop start new) ≡ replicate answer.count 0)
    filled_in =
        let counts = counted (fill_ends start (length old)) in
        (told wr status filled, omega (arith, zeros), d.piece count _ counts wr inside ∙ ap (λ (o : Outcome Laid). o.bytes) filled ∙ ap (λ (n : ℕ). replicate n 0) (sym zeros))
