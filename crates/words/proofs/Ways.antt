-- The ways that each call goes, line by line as document 01 numbers them.
-- Assumes nothing.
use mathlib.Core.Path.{◌≡◌, refl, sym, ap, ◌∙◌}
use mathlib.Core.Logic.{◌⊎◌, inl, inr, ⊎_elim, by_cases}
use mathlib.Core.Bool.{Bool, true, false}
use mathlib.Core.List.{List, map}
use Prim.Native.Nat.{ℕ, zero, suc, ◌<◌, ◌≤◌}
use native.Mathlib.Decide.{dec_le}
use native.Mathlib.Nat.{lt_of_not-le}
use native.Mathlib.Numerals.{add-one}
use native.Mathlib.Omega.{arith}
use lib.Dec.{eqb, ltb}
use lib.ListN.{length, length-map}
use borrow.Author.Count.{below_more}
use borrow.Author.Tests.{eqb-true, eqb-false, ltb-true, ltb-false}
use Rattle.answers.specs.Numbers.{not_offered, wrong_length, no_room, no_bit, no_word}
use Rattle.answers.specs.Outcome.{refusal, writing}
use Rattle.bits.specs.Bits.{is_one, byte, all_bits}
use Rattle.bits.specs.Row.{differences}
use Rattle.bits.proofs.Bits.{bytes_bits}
use Rattle.words.specs.Word.{word_bits}
use Rattle.words.specs.Near.{Near}
use Rattle.words.specs.Calls.{write_word, read_word, refused, found}
use Rattle.words.proofs.Calls.{write_high, write-short, write_done, read_length, read-no_bit}
use Rattle.words.proofs.Exact.{near_found, far_refused}

-- ---- writing: 1, 3, done
pub data Writing (n room : ℕ) : Type 0 where
  too_high : 63 < n → write_word n room ≡ refusal not_offered → Writing n room
  too_short : n ≤ 63 → room < 32 → write_word n room ≡ refusal no_room → Writing n room
  writes : n ≤ 63 → 32 ≤ room → write_word n room ≡ writing (map byte (word_bits n)) → Writing n room

pub writing-goes : (n room : ℕ) → Writing n room
writing-goes n room = decided (ltb 63 n) (ltb room 32) refl refl
  where
    decided : (high short : Bool) → ltb 63 n ≡ high → ltb room 32 ≡ short → Writing n room
    decided true short h s = too_high (ltb-true 63 n h) (write_high n room (ltb-true 63 n h))
    decided false true h s = too_short (ltb-false 63 n h) (ltb-true room 32 s) (write-short n room (ltb-false 63 n h) (ltb-true room 32 s))
    decided false false h s = writes (ltb-false 63 n h) (ltb-false room 32 s) (write_done n room (ltb-false 63 n h) (ltb-false room 32 s))

-- ---- reading: 2, 4, 6, done
abbrev pub NoneNear : List Bool → ℕ → Type 0
NoneNear row most = (n : ℕ) → n < most → 7 < differences (word_bits n) row

pub data Reading (row : List ℕ) : Type 0 where
  no_length : (length row ≡ 32 → ⊥) → read_word row ≡ refused wrong_length → Reading row
  no_bits : length row ≡ 32 → all_bits row ≡ false → read_word row ≡ refused no_bit → Reading row
  none_near : length row ≡ 32 → all_bits row ≡ true → NoneNear (map is_one row) 64 → read_word row ≡ refused no_word → Reading row
  reads : length row ≡ 32 → all_bits row ≡ true → (n wrong : ℕ) → Near (map is_one row) n wrong → read_word row ≡ found n wrong → Reading row

abbrev SomeNear : List Bool → Type 0
SomeNear row = (n : ℕ) × Near row n (differences (word_bits n) row)

-- one of the numbers below a bound is near, or none is
look : (row : List Bool) (most : ℕ) → most ≤ 64 → SomeNear row ⊎ NoneNear row most
look row zero h = inr (λ n l. absurd (omega arith))
look row (suc most) h = ⊎_elim inl next (look row most (omega arith))
  where
    next : NoneNear row most → SomeNear row ⊎ NoneNear row (suc most)
    next none =
        by_cases (dec_le (differences (word_bits most) row) 7) (λ close. inl (most, record { known = omega arith; count = refl; within = close }))
        (λ far. inr (rw add-one at (below_more (λ (n : ℕ). 7 < differences (word_bits n) row) most none (lt_of_not-le far))))

pub reading-goes : (row : List ℕ) → Reading row
reading-goes row = decided (eqb (length row) 32) (all_bits row) refl refl
  where
    bits : length row ≡ 32 → all_bits row ≡ true → Reading row
    bits l a =
        let size = length-map row is_one ∙ l in
        let same = ap read_word (sym (bytes_bits row a)) in
        ⊎_elim
        (λ (some : SomeNear (map is_one row)). reads l a some.0 _ some.1 (same ∙ near_found (map is_one row) size some.0 _ some.1))
        (λ (none : NoneNear (map is_one row) 64). none_near l a none (same ∙ far_refused (map is_one row) size none))
        (look (map is_one row) 64 (omega arith))

    decided : (sized all : Bool) → eqb (length row) 32 ≡ sized → all_bits row ≡ all → Reading row
    decided false all s a = no_length (eqb-false (length row) 32 s) (read_length row (eqb-false (length row) 32 s))
    decided true false s a = no_bits (eqb-true (length row) 32 s) a (read-no_bit row (eqb-true (length row) 32 s) a)
    decided true true s a = bits (eqb-true (length row) 32 s) a
