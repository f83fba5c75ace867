-- What reading a link word answers has few digits: its number is below 64, at most seven places are wrong, and a refusal has one digit.
-- Assumes nothing.
use mathlib.Core.Path.{◌≡◌}
use mathlib.Core.List.{List}
use Prim.Native.Nat.{ℕ, ◌<◌}
use native.Mathlib.Omega.{arith}
use lib.Dec.{lit<}
use Rattle.answers.specs.declared.Refusal.{Refusal}
use Rattle.answers.specs.Working.Refusals.{number_of}
use Rattle.words.specs.declared.Word.{Word}
use Rattle.words.specs.Calls.{read_word}
use Rattle.words.proofs.Ways.{Reading, no_length, no_bits, none_near, reads, reading-goes}

pub record Digits (word : Word) : Type 0 where
  pub number : word.number < 100
  pub wrong : word.wrong < 10
  pub status : word.status < 10

pub digits : (row : List ℕ) {word : Word} → word ≡ read_word row → Digits word
digits row {word} e = goes (reading-goes row)
  where
    goes : Reading row → Digits word
    goes (no_length l r) = rw (e, r) (record { number = lit< tt; wrong = lit< tt; status = lit< tt })
    goes (no_bits l a r) = rw (e, r) (record { number = lit< tt; wrong = lit< tt; status = lit< tt })
    goes (none_near l a f r) = rw (e, r) (record { number = lit< tt; wrong = lit< tt; status = lit< tt })
    goes (reads l a n w near r) = rw (e, r) (record { number = omega (arith, near.known); wrong = omega (arith, near.within); status = lit< tt })

-- no refusal has the number 0
pub some : (refusal : Refusal) → 0 < number_of refusal
some refusal = grind arith
