-- When each call writes, answers and refuses, one law for each way.
-- Assumes nothing.
use mathlib.Core.Path.{◌≡◌}
use mathlib.Core.Bool.{true, false}
use mathlib.Core.List.{List, map}
use Prim.Native.Nat.{ℕ, suc, ◌+◌, ◌-◌, ◌<◌, ◌≤◌}
use native.Mathlib.Omega.{arith}
use lib.ListN.{length, length-map}
use borrow.Author.Tests.{lt-ltb, le-ltb, le-leb, lt-leb, eq-eqb, ne_eqb}
use Rattle.answers.specs.Numbers.{not_offered, wrong_length, no_room, no_bit, no_word}
use Rattle.answers.specs.Outcome.{refusal, writing}
use Rattle.bits.specs.Bits.{is_one, byte, all_bits}
use Rattle.bits.specs.Row.{number}
use Rattle.bits.proofs.Row.{length-high_first}
use Rattle.words.specs.Word.{word_of, word_bits, distance}
use Rattle.words.specs.Calls.{write_word, read_word, first_near, refused, found}

-- ---- writing
pub write_high : (n room : ℕ) → 63 < n → write_word n room ≡ refusal not_offered
unfolding write_word
write_high n room h = simp (lt-ltb 63 n h)

pub write-short : (n room : ℕ) → n ≤ 63 → room < 32 → write_word n room ≡ refusal no_room
unfolding write_word
write-short n room h l = simp (le-ltb 63 n h, lt-ltb room 32 l)

pub write_done : (n room : ℕ) → n ≤ 63 → 32 ≤ room → write_word n room ≡ writing (map byte (word_bits n))
unfolding write_word
write_done n room h l = simp (le-ltb 63 n h, le-ltb room 32 l)

pub length-word : (n : ℕ) → length (map byte (word_bits n)) ≡ 32
length-word n = simp (length-map, length-high_first)

-- ---- reading
pub read_length : (row : List ℕ) → (length row ≡ 32 → ⊥) → read_word row ≡ refused wrong_length
unfolding read_word
read_length row h = simp (ne_eqb (length row) 32 h)

pub read-no_bit : (row : List ℕ) → length row ≡ 32 → all_bits row ≡ false → read_word row ≡ refused no_bit
unfolding read_word
read-no_bit row h e = rw (eq-eqb (length row) 32 h, e)

pub read_near : (row : List ℕ) → length row ≡ 32 → all_bits row ≡ true → read_word row ≡ first_near (number (map is_one row)) 0 64
unfolding read_word
read_near row h e = rw (eq-eqb (length row) 32 h, e)

-- ---- the search, number by number
left : (n : ℕ) → n < 64 → 64 - n ≡ suc (64 - (n + 1))
left n h = omega arith

pub near_here : (came n : ℕ) → n < 64 → distance (word_of n) came ≤ 7 → first_near came n (64 - n) ≡ found n (distance (word_of n) came)
unfolding first_near
near_here came n h d = rw (left n h, le-leb (distance (word_of n) came) 7 d)

pub near_later : (came n : ℕ) → n < 64 → 7 < distance (word_of n) came → first_near came n (64 - n) ≡ first_near came (n + 1) (64 - (n + 1))
unfolding first_near
near_later came n h d = rw (left n h, lt-leb (distance (word_of n) came) 7 d)

pub near_none : (came n : ℕ) → 64 ≤ n → first_near came n (64 - n) ≡ refused no_word
unfolding first_near
near_none came n h = let none : 64 - n ≡ 0 = omega arith in rw none
