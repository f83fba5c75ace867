-- Reading a link word is exact: a row is answered if and only if one of the 64 words is within seven, and with that one.
-- Assumes nothing.
use mathlib.Core.Path.{◌≡◌, refl, sym, ap, ◌∙◌, subst}
use mathlib.Core.Logic.{⊎_elim}
use mathlib.Core.Bool.{Bool}
use mathlib.Core.List.{List, map}
use Prim.Native.Nat.{ℕ, zero, suc, ◌+◌, ◌-◌, ◌≤◌, ◌<◌}
use native.Mathlib.Nat.{lt_of_not-le}
use native.Mathlib.Omega.{arith}
use lib.Dec.{leb}
use lib.ListN.{length, length-map}
use borrow.Author.Tests.{leb-true, lt-leb}
use Rattle.answers.specs.Numbers.{no_word}
use Rattle.lists.proofs.Tests.{either}
use Rattle.bits.specs.Bits.{byte}
use Rattle.bits.specs.Row.{number, differences}
use Rattle.bits.proofs.Bits.{bits-bytes, all_bits-map}
use Rattle.bits.proofs.Row.{length-high_first}
use Rattle.bits.proofs.Differences.{differences_self}
use Rattle.words.specs.declared.Word.{Word}
use Rattle.words.specs.Word.{word_of, word_bits, distance}
use Rattle.words.specs.Calls.{read_word, first_near, refused, found}
use Rattle.words.specs.Near.{Near}
use Rattle.words.proofs.Apart.{distance_is, only_one}
use Rattle.words.proofs.Calls.{read_near, near_here, near_later}

-- a row of bits is searched as its number
searched : (row : List Bool) → length row ≡ 32 → read_word (map byte row) ≡ first_near (number row) 0 64
searched row l =
    read_near (map byte row) (simp length-map l) (all_bits-map row) ∙ ap (λ (r : List Bool). first_near (number r) 0 64) (bits-bytes row)

module _ (row : List Bool) (size : length row ≡ 32) where
  -- ---- what is near is found, since the search passes over every number before it
  here : (n wrong : ℕ) → Near row n wrong → first_near (number row) n (64 - n) ≡ found n wrong
  here n wrong near =
      let count = distance_is n row near.known size ∙ near.count in
      near_here (number row) n near.known (rw count near.within) ∙ ap (found n) count

  far : (m n wrong : ℕ) → m < n → Near row n wrong → 7 < distance (word_of m) (number row)
  far m n wrong h near =
      let known : m < 64 = omega (arith, near.known) in
      rw (distance_is m row known size)
      (lt_of_not-le (λ close. absurd (omega (arith, only_one row m n known near.known close (omega (arith, near.count, near.within))))))

  finds : (k m n wrong : ℕ) → m + k ≡ n → Near row n wrong → first_near (number row) m (64 - m) ≡ found n wrong
  finds zero m n wrong e near =
      let same : m ≡ n = omega arith in
      subst (λ (x : ℕ). first_near (number row) x (64 - x) ≡ found n wrong) (sym same) (here n wrong near)
  finds (suc k) m n wrong e near =
      near_later (number row) m (omega (arith, near.known)) (far m n wrong (omega arith) near) ∙ finds k (m + 1) n wrong (omega arith) near

  pub near_found : (n wrong : ℕ) → Near row n wrong → read_word (map byte row) ≡ found n wrong
  near_found n wrong near = searched row size ∙ finds n 0 n wrong (omega arith) near

  -- ---- what is found is near
  near_at : (m n wrong : ℕ) → m < 64 → distance (word_of m) (number row) ≤ 7 → found m (distance (word_of m) (number row)) ≡ found n wrong → Near row n wrong
  near_at m n wrong h d e =
      let same : m ≡ n = ap (λ (w : Word). w.number) e in
      let count : distance (word_of m) (number row) ≡ wrong = ap (λ (w : Word). w.wrong) e in
      rw (← same) (record { known = h; count = sym (distance_is m row h size) ∙ count; within = rw count at d })

  is_near : (left m n wrong : ℕ) → m + left ≡ 64 → first_near (number row) m left ≡ found n wrong → Near row n wrong
  unfolding first_near
  is_near zero m n wrong e f = absurd (omega (arith, ap (λ (w : Word). w.status) f))
  is_near (suc left) m n wrong e f =
      let d = distance (word_of m) (number row) in
      ⊎_elim
      (λ t. near_at m n wrong (omega arith) (leb-true d 7 t.0) t.1)
      (λ t. is_near left (m + 1) n wrong (omega arith) t.1)
      (either (leb d 7) f)

  pub found_near : (n wrong : ℕ) → read_word (map byte row) ≡ found n wrong → Near row n wrong
  found_near n wrong f = is_near 64 0 n wrong refl (sym (searched row size) ∙ f)

  -- ---- refusal 6 is given exactly where no word is near
  pub refused_far : read_word (map byte row) ≡ refused no_word → (n : ℕ) → n < 64 → 7 < differences (word_bits n) row
  refused_far f n h =
      lt_of_not-le
      (λ close. let answered = near_found n (differences (word_bits n) row) (record { known = h; count = refl; within = close }) in
      absurd (omega (arith, ap (λ (w : Word). w.status) (sym f ∙ answered))))

  none_near : ((n : ℕ) → n < 64 → 7 < differences (word_bits n) row) → (left m : ℕ) → m + left ≡ 64 → first_near (number row) m left ≡ refused no_word
  unfolding first_near
  none_near far zero m e = refl
  none_near far (suc left) m e =
      rw (lt-leb (distance (word_of m) (number row)) 7 (rw (distance_is m row (omega arith) size) (far m (omega arith)))) (none_near far left (m + 1) (omega arith))

  pub far_refused : ((n : ℕ) → n < 64 → 7 < differences (word_bits n) row) → read_word (map byte row) ≡ refused no_word
  far_refused far = searched row size ∙ none_near far 64 0 refl

-- ---- what is written reads back
pub word_back : (n : ℕ) → n < 64 → read_word (map byte (word_bits n)) ≡ found n 0
word_back n h =
    near_found (word_bits n) (length-high_first 32 (word_of n)) n 0 (record { known = h; count = differences_self (word_bits n); within = omega arith })
