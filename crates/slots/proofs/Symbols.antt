-- The training symbols, each sent as two equal bits: how they are laid, and how what came is compared with them.
-- Assumes nothing.
use mathlib.Core.Path.{◌≡◌, refl}
use mathlib.Core.Bool.{Bool}
use mathlib.Core.List.{List, [], ◌∷◌, ◌++◌, map}
use Prim.Native.Nat.{ℕ, ◌+◌, ◌*◌, ◌/◌, ◌<◌, ◌≤◌}
use native.Mathlib.Nat.{zero-add}
use native.Mathlib.Omega.{arith}
use lib.Dec.{eqb, eqb→eq}
use lib.ListN.{length, get_or, set, take, drop, length-map}
use Rattle.std.proofs.lemmas.List.{take_more_set, take_more}
use lib.Seq.{take_all, length-take-le}
use Rattle.lists.specs.Over.{over}
use Rattle.lists.proofs.Over.{over_zero}
use Rattle.lists.proofs.Line.{line}
use Rattle.bits.specs.Bits.{is_one, byte}
use Rattle.bits.specs.Row.{high_first, differ, differences}
use Rattle.bits.proofs.Differences.{differ-le}
use Rattle.slots.specs.Burst.{doubled, symbols, training}
use Rattle.slots.specs.declared.training.TheConstants.{SYMBOLS}

pub length-training : length training ≡ 54
unfolding training doubled symbols high_first
length-training = refl

pub length-bytes : length (map byte training) ≡ 54
length-bytes = simp length-map length-training

-- ---- laying them: bit i is that of symbol i / 2
abbrev same : ℕ → Bool
same i = eqb (byte (eqb (get_or SYMBOLS (i / 2) 0) 49)) (get_or (map byte training) i 0)

symbol_at : (i : ℕ) → i < 54 → byte (eqb (get_or SYMBOLS (i / 2) 0) 49) ≡ get_or (map byte training) i 0
unfolding training doubled symbols high_first
symbol_at i h = eqb→eq _ _ (line 54 same tt i h)

-- in the first 54 places of a buffer
module _ (out : List ℕ) (room : 54 ≤ length out) (i : ℕ) where
  first_long : length (take 54 out) ≡ 54
  first_long = length-take-le 54 out room

  pub symbol_there : i < length (take 54 out) → i / 2 < 27
  symbol_there h = omega (arith, first_long, h)

  pub laid_more : (bits : List ℕ) → i < length (take 54 out) → length bits ≡ length (take 54 out) → take i bits ≡ take i (map byte training)
      → take (i + 1) (set bits i (byte (eqb (get_or SYMBOLS (i / 2) 0) 49))) ≡ take (i + 1) (map byte training)
  laid_more bits h l e = grind (arith, take_more_set, take_more, symbol_at, length-bytes, first_long)

  -- at the end all are laid, and what stood behind them stands there still
  pub laid_all : (bits : List ℕ) → length (take 54 out) ≤ i → length bits ≡ length (take 54 out) → take i bits ≡ take i (map byte training)
      → bits ++ drop 54 out ≡ over 0 (map byte training) out
  laid_all bits h l e =
      let all : bits ≡ map byte training = grind (arith, take_all, length-bytes, first_long) in
      rw (all, over_zero, length-bytes)

pub ruleset laying = (symbol_there, laid_more, laid_all)

-- ---- comparing with them
-- so many bits differ so far; the rest of what came is still to be compared with the symbols that are left, which are characters
pub record Compared (came characters rest : List ℕ) (count : ℕ) : Type 0 where
  pub long : length rest ≡ 2 * length characters
  pub few : count + length rest ≤ 54
  pub sum : count + differences (doubled (map (λ symbol. eqb symbol 49) characters)) (map is_one rest) ≡ differences training (map is_one came)

pub compared_none : (came characters rest : List ℕ) → length came ≡ 54
    → characters ≡ SYMBOLS → rest ≡ came → Compared came characters rest 0
unfolding training doubled symbols high_first
compared_none came characters rest l e f = rw (e, f) (record { long = l; few = omega (arith, l); sum = zero-add _ })

pub compared_all : (came characters rest : List ℕ) {count : ℕ} → Compared came characters rest count → length characters ≡ 0
    → count ≡ differences training (map is_one came)
unfolding doubled differences
compared_all came [] [] w l = omega (arith, w.sum)
compared_all came [] (x ∷ rest) w l = absurd (omega (arith, w.long))
compared_all came (x ∷ characters) rest w l = absurd (omega arith)

-- the next symbol is compared with the next pair of bits
pub compared_more : {came : List ℕ} {symbol : ℕ} {characters rest : List ℕ} {count : ℕ} (pair : List ℕ) → length pair ≡ 2
    → Compared came (symbol ∷ characters) (pair ++ rest) count → {wrong : ℕ}
    → wrong ≡ differ (eqb symbol 49) (is_one (get_or pair 0 0)) + differ (eqb symbol 49) (is_one (get_or pair 1 0))
    → Compared came characters rest (count + wrong)
unfolding doubled differences
compared_more [] l w e = absurd (omega arith)
compared_more (x ∷ []) l w e = absurd (omega arith)
compared_more (x ∷ y ∷ z ∷ more) l w e = absurd (omega arith)
compared_more {symbol = symbol} (x ∷ y ∷ []) l w e =
    let b = eqb symbol 49 in
    record {
      long = omega (arith, w.long);
      few = omega (arith, w.few, e, differ-le b (is_one x), differ-le b (is_one y));
      sum = omega (arith, w.sum, e);
    }
