-- X passes at every clock of a good row, so the coded bits are X and parity bits clock by clock, and then the ending.
-- Assumes nothing.
use mathlib.Core.Path.{◌≡◌, refl, sym, ap, ap₂, ◌∙◌}
use mathlib.Core.Bool.{Bool}
use mathlib.Core.List.{List, [], ◌∷◌, ◌++◌, map}
use Prim.Native.Nat.{ℕ, zero, suc}
use native.Mathlib.Omega.{arith}
use lib.Dec.{T}
use lib.ListN.{length, get_or, take, drop, length-drop}
use lib.Seq.{get_or-drop, drop-drop}
use Rattle.links.specs.declared.Row.{Row}
use Rattle.links.specs.Patterns.{pattern_of, tail_of, flags_at, total}
use Rattle.links.specs.Working.Good.{good_row}
use Rattle.links.proofs.GoodFlags.{Clock, Pattern, clock-at, pattern}
use Rattle.turbo.specs.Encoder.{Register, start, next, y0, y1}
use Rattle.turbo.specs.Interleaver.{interleaved}
use Rattle.turbo.specs.Coded.{six, passed, ending, coded_from, coded}
use Rattle.bits.specs.Working.Weave.{weave}
use Rattle.turbo.specs.Working.Parity.{parity_from, counts_from, register_after, parity_of, counts_of, tail_bits_of}
use Rattle.turbo.proofs.Interleaved.{length-interleaved}
use Rattle.turbo.proofs.Passing.{length-passed, passed_x, passed_over, passed_split}

-- a clock passes on its X, and behind it what its other flags pass on
pub clock-passes : (flags : List ℕ) → Clock flags → (a b : Register) (x y : Bool) → passed flags (six a b x y) ≡ x ∷ passed (drop 1 flags) (drop 1 (six a b x y))
unfolding six
clock-passes flags clock a b x y = passed_x flags x (drop 1 (six a b x y)) clock.x

-- these are parity bits: X' does not pass
pub parity-alone : (flags : List ℕ) → Clock flags → (a b : Register) (x y : Bool)
    → passed (drop 1 flags) (drop 1 (six a b x y)) ≡ passed (take 2 (drop 1 flags)) (y0 a x ∷ y1 a x ∷ []) ++ passed (drop 4 flags) (y0 b y ∷ y1 b y ∷ [])
unfolding six
parity-alone flags clock a b x y =
    let second = y0 b y ∷ y1 b y ∷ [] in
    let x' : get_or (drop 3 flags) 0 0 ≡ 0 = get_or-drop 3 flags 0 0 ∙ clock.x' in
    passed_split 2 (drop 1 flags) (drop 1 (six a b x y))
    ∙ ap (◌++◌ (passed (take 2 (drop 1 flags)) (y0 a x ∷ y1 a x ∷ [])))
    (ap (λ (flags : List ℕ). passed flags (y ∷ second)) (drop-drop 2 1 flags) ∙ passed_over (drop 3 flags) y second x' ∙ ap (λ (flags : List ℕ). passed flags second) (drop-drop 1 3 flags))

-- how much that is depends on the flags only
pub parity-length : (flags : List ℕ) → Clock flags → (a b : Register) (x y : Bool) → length (passed (drop 1 flags) (drop 1 (six a b x y))) ≡ total (drop 1 flags)
unfolding six
parity-length flags clock a b x y = length-passed (drop 1 flags) (drop 1 (six a b x y)) (omega (arith, length-drop 1 flags, clock.six))

module _ (pattern : List (List ℕ)) (good : Pattern pattern) where
  pub weave-from : (tail : List (List ℕ)) (s : ℕ) (a b : Register) (u v : List Bool) → length u ≡ length v
      → coded_from pattern tail s a b u v ≡ weave u (parity_from pattern s a b u v) (ending tail (register_after a u) (register_after b v))
  unfolding coded_from weave parity_from register_after
  weave-from tail s a b [] [] l = refl
  weave-from tail s a b [] (y ∷ v) l = absurd (omega arith)
  weave-from tail s a b (x ∷ u) [] l = absurd (omega arith)
  weave-from tail s a b (x ∷ u) (y ∷ v) l =
      ap₂ ◌++◌ (clock-passes (flags_at pattern s) (clock-at pattern good s) a b x y) (weave-from tail (suc s) (next a x) (next b y) u v (omega arith))

  pub counts_from_lem : (s : ℕ) (a b : Register) (u v : List Bool) → length u ≡ length v → map length (parity_from pattern s a b u v) ≡ counts_from pattern s (length u)
  unfolding parity_from counts_from
  counts_from_lem s a b [] v l = refl
  counts_from_lem s a b (x ∷ u) [] l = absurd (omega arith)
  counts_from_lem s a b (x ∷ u) (y ∷ v) l =
      ap₂ ◌∷◌ (parity-length (flags_at pattern s) (clock-at pattern good s) a b x y) (counts_from_lem (suc s) (next a x) (next b y) u v (omega arith))

pub length-counts_from : (pattern : List (List ℕ)) (s n : ℕ) → length (counts_from pattern s n) ≡ n
unfolding counts_from
length-counts_from pattern s zero = refl
length-counts_from pattern s (suc n) = ap suc (length-counts_from pattern (suc s) n)

-- of a block
pub length-counts : (row : Row) → length (counts_of row) ≡ row.k
length-counts row = length-counts_from (pattern_of row.pattern) 0 row.k

module _ (row : Row) (good : T (good_row row)) (u : List Bool) (l : length u ≡ row.k) where
  both_long : length u ≡ length (interleaved row u)
  both_long = l ∙ sym (length-interleaved row u)

  pub coded-weave : coded row u ≡ weave u (parity_of row u) (tail_bits_of row u)
  unfolding coded
  coded-weave = weave-from (pattern_of row.pattern) (pattern row good) (tail_of row.tail) 0 start start u (interleaved row u) both_long

  pub parity-counts : map length (parity_of row u) ≡ counts_of row
  parity-counts =
      counts_from_lem (pattern_of row.pattern) (pattern row good) 0 start start u (interleaved row u) both_long
      ∙ ap (counts_from (pattern_of row.pattern) 0) l
