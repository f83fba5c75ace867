-- Different words differ in at least 16 places, so at most one is within seven of what came.
-- Assumes nothing.
use mathlib.Core.Path.{◌≡◌, sym, ap, ◌∙◌, subst}
use mathlib.Core.Logic.{by_cases}
use mathlib.Core.Bool.{Bool, ◌||◌}
use mathlib.Core.List.{List}
use Prim.Native.Nat.{ℕ, ◌^◌, ◌≤◌, ◌<◌}
use native.Mathlib.Decide.{ℕ_discrete}
use native.Mathlib.Omega.{arith}
use lib.Dec.{T, leb, ltb, eqb, leb→le, ltb→lt}
use lib.ListN.{length}
use borrow.Author.Tests.{ne_eqb}
use Rattle.lists.proofs.Line.{upto, line, square}
use Rattle.bits.specs.Row.{high_first, number, differences}
use Rattle.bits.proofs.Row.{length-high_first, number-high_first}
use Rattle.bits.proofs.Differences.{differences_comm, differences_triangle}
use Rattle.bits.proofs.Ones.{ones_differences}
use Rattle.words.specs.Word.{generator, with_rows, word_of, word_bits, distance}

-- ---- every word fits 32 bits: one test of the 64
abbrev fits : ℕ → Bool
fits n = ltb (word_of n) (2 ^ 32)

all_fit : T (upto 64 fits)
unfolding generator with_rows word_of
all_fit = tt

small : (n : ℕ) → n < 64 → word_of n < 2 ^ 32
small n h = ltb→lt (word_of n) (2 ^ 32) (line 64 fits all_fit n h)

-- the ones of the exclusive-or are the places where the rows differ
pub distance_is : (n : ℕ) (row : List Bool) → n < 64 → length row ≡ 32 → distance (word_of n) (number row) ≡ differences (word_bits n) row
distance_is n row h l =
    ap (λ (w : ℕ). distance w (number row)) (sym (number-high_first 32 (word_of n) (small n h)))
    ∙ ones_differences (word_bits n) row (length-high_first 32 (word_of n) ∙ sym l)

-- ---- two different words are 16 apart: one test of the pairs
abbrev far : ℕ → ℕ → Bool
far m n = eqb m n || leb 16 (differences (word_bits m) (word_bits n))

all_far : T (upto 64 (λ m. upto 64 (λ n. far m n)))
unfolding generator with_rows word_of high_first differences
all_far = tt

pub apart : (m n : ℕ) → m < 64 → n < 64 → (m ≡ n → ⊥) → 16 ≤ differences (word_bits m) (word_bits n)
apart m n hm hn ne =
    let gap = leb 16 (differences (word_bits m) (word_bits n)) in
    leb→le 16 (differences (word_bits m) (word_bits n)) (subst (λ (b : Bool). T (b || gap)) (ne_eqb m n ne) (square 64 64 far all_far m n hm hn))

-- no row is within seven of two different words
pub only_one : (row : List Bool) (m n : ℕ) → m < 64 → n < 64 → differences (word_bits m) row ≤ 7 → differences (word_bits n) row ≤ 7 → m ≡ n
only_one row m n hm hn near-m near-n =
    by_cases (ℕ_discrete m n) (λ e. e)
    (λ ne. absurd (omega (arith, apart m n hm hn ne, differences_triangle (word_bits m) row (word_bits n), differences_comm row (word_bits n))))
