-- What is shown of link words, from the laws of the crate `words`.
-- Assumes nothing.
use mathlib.Core.Path.{◌≡◌, refl, sym, ap, ◌∙◌}
use mathlib.Core.Bool.{Bool, false}
use mathlib.Core.List.{List, map}
use Prim.Native.Nat.{ℕ, ◌<◌, ◌≤◌}
use native.Mathlib.Omega.{arith}
use lib.ListN.{length, get_or, take}
use Rattle.answers.specs.declared.Written.{Written}
use Rattle.answers.specs.Numbers.{done}
use Rattle.answers.proofs.Wrote.{told}
use Rattle.bits.specs.Bits.{byte}
use Rattle.bits.specs.Row.{high_first, differences}
use Rattle.bits.proofs.Differences.{differences_comm, differences-between}
use Rattle.bits.proofs.Row.{length-high_first}
use Rattle.words.specs.declared.Word.{Word}
use Rattle.words.specs.Word.{generator, with_rows, word_of, word_bits}
use Rattle.words.specs.Near.{Near}
use Rattle.words.specs.Calls.{read_word, found}
use Rattle.words.proofs.Apart as apart
use Rattle.words.proofs.Calls.{write_done, length-word}
use Rattle.words.proofs.Exact.{near_found, word_back}
use Rattle.words.proofs.Ways as w
use Rattle.claims.specs.Calls.{WroteWord, ReadWord}
use Rattle.claims.proofs.Endings.{writers, word-ends, laid_in}

module _ (n : ℕ) (old new : List ℕ) (answer : Written) (wr : WroteWord n old new answer) where
  pub written : n ≤ 63 → 32 ≤ length old → (answer.status ≡ done) × (answer.count ≡ 32) × (take 32 new ≡ map byte (word_bits n))
  written h room =
      let e = write_done n (length old) h room in
      let laid = laid_in (word-ends n (length old)) wr e in
      let long = laid.full ∙ length-word n in
      (told wr writers.status e, long, rw long at laid.front)

  -- an answer 0 is given only where the word is written
  pub back : answer.status ≡ done → read_word (take answer.count new) ≡ found n 0
  back z = goes (w.writing-goes n (length old))
    where
      goes : w.Writing n (length old) → read_word (take answer.count new) ≡ found n 0
      goes (w.too_high h e) = absurd (omega (arith, told wr writers.status e))
      goes (w.too_short h f e) = absurd (omega (arith, told wr writers.status e))
      goes (w.writes h f e) = let all = written h f in rw (all.1, all.2) (word_back n (omega arith))

pub refused : (row : List ℕ) (answer : Word) → ReadWord row answer → (answer.status ≡ done → ⊥) → (answer.number ≡ 0) × (answer.wrong ≡ 0)
refused row answer e z = goes (w.reading-goes row)
  where
    zero : {number : ℕ} → read_word row ≡ record { status = number; number = 0; wrong = 0 } → (answer.number ≡ 0) × (answer.wrong ≡ 0)
    zero f = (ap (λ (a : Word). a.number) (e ∙ f), ap (λ (a : Word). a.wrong) (e ∙ f))

    goes : w.Reading row → (answer.number ≡ 0) × (answer.wrong ≡ 0)
    goes (w.no_length l f) = zero f
    goes (w.no_bits l a f) = zero f
    goes (w.none_near l a none f) = zero f
    goes (w.reads l a n wrong near f) = absurd (z (ap (λ (a : Word). a.status) (e ∙ f)))

pub mended : (n : ℕ) → n < 64 → (row : List Bool) → length row ≡ 32 → differences (word_bits n) row ≤ 7 → read_word (map byte row) ≡ found n (differences (word_bits n) row)
mended n h row size within = near_found row size n (differences (word_bits n) row) (record { known = h; count = refl; within = within })

pub only_one : (row : List Bool) (m n a b : ℕ) → Near row m a → Near row n b → m ≡ n
only_one row m n a b p q = apart.only_one row m n p.known q.known (omega (arith, p.count, p.within)) (omega (arith, q.count, q.within))

-- the words of 0 and 1 differ in 16 places, so a row between them that is nine from the one is seven from the other
pub nine : (row : List Bool) → length row ≡ 32 → ((i : ℕ) → i < 32 → get_or (word_bits 0) i false ≡ get_or (word_bits 1) i false → get_or row i false ≡ get_or (word_bits 0) i false)
    → differences (word_bits 0) row ≡ 9 → read_word (map byte row) ≡ found 1 7
nine row size agrees e =
    let long = length-high_first 32 (word_of 0) in
    let between = differences-between (word_bits 0) row (word_bits 1) (long ∙ sym size) (size ∙ sym (length-high_first 32 (word_of 1))) (λ i h. agrees i (omega (arith, long))) in
    let seven : differences (word_bits 1) row ≡ 7 = omega (arith, between, sixteen, differences_comm (word_bits 1) row) in
    near_found row size 1 7 (record { known = omega arith; count = seven; within = omega arith })
  where
    sixteen : differences (word_bits 0) (word_bits 1) ≡ 16
    sixteen = unfold high_first generator with_rows word_of differences in refl
