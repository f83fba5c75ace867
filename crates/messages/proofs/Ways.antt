-- One law for each way a step goes.
-- Assumes nothing.
use mathlib.Core.Path.{◌≡◌, sym, ap, ◌∙◌}
use mathlib.Core.Bool.{true, false, true≢false}
use mathlib.Core.List.{List}
use Prim.Native.Nat.{ℕ, ◌+◌, ◌-◌, ◌<◌, ◌≤◌}
use native.Mathlib.Omega.{arith}
use native.Mathlib.Numerals.{add-one}
use lib.ListN.{length, get_or, drop, drop_of_length-le}
use lib.Seq.{drop-cons}
use borrow.Author.Tests.{lt-ltb, le-ltb, ne_eqb}
use Rattle.answers.specs.Numbers.{past_end, small_length, broken_fill, few_left, message_past_end}
use Rattle.lists.proofs.Parts.{part_rest}
use Rattle.messages.specs.declared.Step.{Step}
use Rattle.messages.specs.Fill.{only_zeros}
use Rattle.messages.specs.Step.{refused, finished, message, lie, is_lie, declared_length, zeros_at, message_at, step_at, step_from, step_message}

-- ---- equal answers are equal in each number
module _ {a b : Step} (e : a ≡ b) where
  pub same-status : a.status ≡ b.status
  same-status = ap (λ (s : Step). s.status) e

  pub same_start : a.start ≡ b.start
  same_start = ap (λ (s : Step). s.start) e

  pub same_length : a.length ≡ b.length
  same_length = ap (λ (s : Step). s.length) e

  pub same_missing : a.missing ≡ b.missing
  same_missing = ap (λ (s : Step). s.missing) e

  -- a lie and another answer are not equal
  pub lie_apart : {A : Type 0} → is_lie a.status ≡ true → is_lie b.status ≡ false → A
  lie_apart one none = absurd (true≢false (sym one ∙ ap is_lie same-status ∙ none))

-- ---- where the zero fill begins
pub zeros_only : (left : List ℕ) → only_zeros left ≡ true → zeros_at left ≡ finished
unfolding zeros_at
zeros_only left e = rw e

pub zeros_broken : (left : List ℕ) → only_zeros left ≡ false → zeros_at left ≡ refused broken_fill
unfolding zeros_at
zeros_broken left e = rw e

-- ---- where a message begins, by the first of the three tests that it fails
module _ (position : ℕ) (left : List ℕ) where
  pub message-few : length left < 3 → message_at position left ≡ lie few_left position 0
  unfolding message_at
  message-few h = simp (lt-ltb (length left) 3 h)

  pub message_small : 3 ≤ length left → declared_length left < 7 → message_at position left ≡ lie small_length position 0
  unfolding message_at
  message_small l h = simp (le-ltb (length left) 3 l, lt-ltb (declared_length left) 7 h)

  pub message-long : 3 ≤ length left → 7 ≤ declared_length left → length left < declared_length left
      → message_at position left ≡ lie message_past_end position (declared_length left - length left)
  unfolding message_at
  message-long l s h = simp (le-ltb (length left) 3 l, le-ltb (declared_length left) 7 s, lt-ltb (length left) (declared_length left) h)

  pub message-whole : 7 ≤ declared_length left → declared_length left ≤ length left → message_at position left ≡ message position (declared_length left)
  unfolding message_at
  message-whole h l = simp (le-ltb (length left) 3 (omega arith), le-ltb (declared_length left) 7 h, le-ltb (length left) (declared_length left) l)

-- the four together
pub ruleset message_laws = (message-few, message_small, message-long, message-whole)

-- ---- a step from a place: at the end, at a byte 81, at a byte 0, at another
module _ (datagram : List ℕ) (place : ℕ) where
  pub step_end : length datagram ≤ place → step_from datagram place ≡ finished
  unfolding step_at
  step_end h = rw (drop_of_length-le datagram h)

  module _ (h : place < length datagram) where
    pub step-passes : get_or datagram place 0 ≡ 81 → step_from datagram place ≡ step_from datagram (place + 1)
    unfolding step_at
    step-passes e = rw (drop-cons datagram place 0 h, e, add-one)

    pub step-zeros : get_or datagram place 0 ≡ 0 → step_from datagram place ≡ zeros_at (drop place datagram)
    unfolding step_at
    step-zeros e = rw (drop-cons datagram place 0 h, e)

    pub step-begins : (get_or datagram place 0 ≡ 81 → ⊥) → (get_or datagram place 0 ≡ 0 → ⊥) → step_from datagram place ≡ message_at place (drop place datagram)
    unfolding step_at
    step-begins p z = rw (drop-cons datagram place 0 h, ne_eqb _ 81 p, ne_eqb _ 0 z)

-- but for the byte 81, with what is left as a part of the datagram
pub ruleset place_laws = (step_end, step-zeros, step-begins, part_rest)

-- ---- a step from a position
pub step_past : (datagram : List ℕ) (position : ℕ) → length datagram < position → step_message datagram position ≡ refused past_end
unfolding step_message
step_past datagram position h = simp (lt-ltb (length datagram) position h)

pub step-within : (datagram : List ℕ) (position : ℕ) → position ≤ length datagram → step_message datagram position ≡ step_from datagram position
unfolding step_message
step-within datagram position h = simp (le-ltb (length datagram) position h)

-- both together
pub ruleset position_laws = (step_past, step-within)
