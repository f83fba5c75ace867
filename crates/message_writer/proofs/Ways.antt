-- When a message and a zero fill are laid and when they are refused, one law for each way, and the ways together.
-- Assumes nothing.
use mathlib.Core.Path.{◌≡◌, refl}
use mathlib.Core.Bool.{Bool, true, false}
use mathlib.Core.List.{List}
use Prim.Native.Nat.{ℕ, ◌+◌, ◌-◌, ◌<◌, ◌≤◌}
use lib.Dec.{ltb}
use lib.ListN.{length, replicate}
use borrow.Author.Tests.{lt-ltb, le-ltb, ltb-true, ltb-false}
use Rattle.answers.specs.Numbers.{no_room, past_end, no_type, long_body}
use Rattle.lists.proofs.Over.{over-nil}
use Rattle.message_writer.specs.Message.{is_no_type, longest_body, total_of, message_of}
use Rattle.message_writer.specs.Calls.{refusal, laying, write_message, zero_fill}
use Rattle.message_writer.proofs.Bytes.{message-bytes}

module _ (start type source : ℕ) (body : List ℕ) (room : ℕ) where
  -- what is answered
  abbrev Answers : ℕ → Type 0
  Answers number = write_message start type source body room ≡ refusal number

  abbrev Lays : Type 0
  Lays = write_message start type source body room ≡ laying (message_of type source body)

  pub write-past : room < start → Answers past_end
  unfolding write_message
  write-past h = rw (lt-ltb room start h)

  module _ (inside : start ≤ room) where
    pub write-no_type : is_no_type type ≡ true → Answers no_type
    unfolding write_message
    write-no_type t = rw (le-ltb room start inside, t)

    module _ (typed : is_no_type type ≡ false) where
      pub write-long : longest_body < length body → Answers long_body
      unfolding write_message
      write-long h = rw (le-ltb room start inside, typed, lt-ltb longest_body (length body) h)

      module _ (short : length body ≤ longest_body) where
        pub write-full : room < start + total_of body → Answers no_room
        unfolding write_message
        write-full h = rw (le-ltb room start inside, typed, le-ltb longest_body (length body) short, lt-ltb room (start + total_of body) h)

        pub write_done : start + total_of body ≤ room → Lays
        unfolding write_message
        write_done h = rw (le-ltb room start inside, typed, le-ltb longest_body (length body) short, le-ltb room (start + total_of body) h)

  -- the ways, line by line as document 02 numbers them: 8, 13, 14, 3, done
  pub data Writing : Type 0 where
    past : room < start → Answers past_end → Writing
    no_type_lem : start ≤ room → is_no_type type ≡ true → Answers no_type → Writing
    too_long : start ≤ room → is_no_type type ≡ false → longest_body < length body → Answers long_body → Writing
    too_short : start ≤ room → is_no_type type ≡ false → length body ≤ longest_body → room < start + total_of body → Answers no_room → Writing
    writes : start ≤ room → is_no_type type ≡ false → length body ≤ longest_body → start + total_of body ≤ room → Lays → Writing

  pub writing-goes : Writing
  writing-goes = decided (ltb room start) (is_no_type type) (ltb longest_body (length body)) (ltb room (start + total_of body)) refl refl refl refl
    where
      decided : (beyond untyped long full : Bool) → ltb room start ≡ beyond → is_no_type type ≡ untyped → ltb longest_body (length body) ≡ long → ltb room (start + total_of body) ≡ full → Writing
      decided true untyped long full b t l f = let h = ltb-true _ _ b in past h (write-past h)
      decided false true long full b t l f = let i = ltb-false _ _ b in no_type_lem i t (write-no_type i t)
      decided false false true full b t l f =
          let i = ltb-false _ _ b in
          let h = ltb-true _ _ l in
          too_long i t h (write-long i t h)
      decided false false false true b t l f =
          let i = ltb-false _ _ b in
          let s = ltb-false _ _ l in
          let h = ltb-true _ _ f in
          too_short i t s h (write-full i t s h)
      decided false false false false b t l f =
          let i = ltb-false _ _ b in
          let s = ltb-false _ _ l in
          let h = ltb-false _ _ f in
          writes i t s h (write_done i t s h)

-- what a call is shown by: the ways, what a refusal lays, and what a message is
pub ruleset write_laws = (write-past, write-no_type, write-long, write-full, write_done, over-nil, message-bytes)

-- ---- zero fill
module _ (start room : ℕ) where
  pub fill_past : room < start → zero_fill start room ≡ refusal past_end
  unfolding zero_fill
  fill_past h = rw (lt-ltb room start h)

  pub fill_done : start ≤ room → zero_fill start room ≡ laying (replicate (room - start) 0)
  unfolding zero_fill
  fill_done h = rw (le-ltb room start h)

  -- the ways: 8, done
  pub data Filling : Type 0 where
    beyond : room < start → zero_fill start room ≡ refusal past_end → Filling
    fills : start ≤ room → zero_fill start room ≡ laying (replicate (room - start) 0) → Filling

  pub filling_goes : Filling
  filling_goes = decided (ltb room start) refl
    where
      decided : (past : Bool) → ltb room start ≡ past → Filling
      decided true b = let h = ltb-true _ _ b in beyond h (fill_past h)
      decided false b = let h = ltb-false _ _ b in fills h (fill_done h)
