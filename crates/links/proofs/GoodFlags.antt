-- What the test of a row says of the flags of its pattern and of its tail.
-- Assumes nothing.
use mathlib.Core.Path.{◌≡◌}
use mathlib.Core.List.{List, []}
use Prim.Native.Nat.{ℕ, ◌+◌, ◌%◌, ◌≤◌, ◌<◌}
use native.Mathlib.Nat.{mod-lt}
use native.Mathlib.Omega.{arith}
use lib.Dec.{T, eqb→eq, ltb→lt, leb→le}
use lib.ListN.{length, get_or, take, drop, length-take, length-drop}
use lib.Seq.{get_or-take, get_or-drop}
use Rattle.std.proofs.lemmas.Grind.{common_steps}
use Rattle.lists.proofs.Every.{every-at, every-place, together_at}
use Rattle.links.specs.declared.Row.{Row}
use Rattle.links.specs.Patterns.{pattern_of, tail_of, flags_at}
use Rattle.links.specs.Working.Twice.{AllAtMostTwice}
use Rattle.links.specs.Working.Good.{at_most, good_clock, good_pattern, silent, of_first, of_second, good_tail, good_row}

-- a clock of a pattern
pub record Clock (flags : List ℕ) : Type 0 where
  pub six : length flags ≡ 6
  -- X passes once, X' never, and no bit twice
  pub x : get_or flags 0 0 ≡ 1
  pub x' : get_or flags 3 0 ≡ 0
  pub low : (i : ℕ) → get_or flags i 0 ≤ 1

clock-from : (flags : List ℕ) → T (good_clock flags) → Clock flags
unfolding good_clock
clock-from flags t =
    let at = together_at _ t in
    record {
      six = eqb→eq (length flags) 6 (at 0);
      x = eqb→eq (get_or flags 0 0) 1 (at 1);
      x' = eqb→eq (get_or flags 3 0) 0 (at 2);
      low = λ i. leb→le (get_or flags i 0) 1 (every-place (at_most 1) 0 flags (at 3) tt i);
    }

pub record Pattern (clocks : List (List ℕ)) : Type 0 where
  pub some : 0 < length clocks
  pub few : length clocks ≤ 10
  pub clock : (i : ℕ) → i < length clocks → Clock (get_or clocks i [])

pub pattern : (row : Row) → T (good_row row) → Pattern (pattern_of row.pattern)
unfolding good_row good_pattern
pattern row t =
    let clocks = pattern_of row.pattern in
    let at = together_at _ (together_at _ t 2) in
    record {
      some = ltb→lt 0 (length clocks) (at 0);
      few = leb→le (length clocks) 10 (at 1);
      clock = λ i h. clock-from (get_or clocks i []) (every-at good_clock [] clocks (at 2) i h);
    }

-- the flags of any clock s are those of one of the pattern's clocks
pub clock-at : (clocks : List (List ℕ)) → Pattern clocks → (s : ℕ) → Clock (flags_at clocks s)
unfolding flags_at
clock-at clocks p s = p.clock (s % length clocks) (mod-lt s p.some)

-- no flag of a pattern sends a bit more than twice
pub at_most_twice : (clocks : List (List ℕ)) → Pattern clocks → AllAtMostTwice clocks
at_most_twice clocks p c x = grind (arith, common_steps, p.clock c)

-- a clock of a tail
pub record Silent (of : List ℕ → List ℕ) (flags : List ℕ) : Type 0 where
  pub six : length flags ≡ 6
  pub low : (i : ℕ) → get_or flags i 0 ≤ 2
  -- nothing of the one encoder passes
  pub none : (i : ℕ) → get_or (of flags) i 0 ≡ 0

silent-from : (of : List ℕ → List ℕ) (flags : List ℕ) → T (silent of flags) → Silent of flags
unfolding silent
silent-from of flags t =
    let at = together_at _ t in
    record {
      six = eqb→eq (length flags) 6 (at 0);
      low = λ i. leb→le (get_or flags i 0) 2 (every-place (at_most 2) 0 flags (at 1) tt i);
      none = λ i. omega (arith, leb→le (get_or (of flags) i 0) 0 (every-place (at_most 0) 0 (of flags) (at 2) tt i));
    }

pub record Tail (clocks : List (List ℕ)) : Type 0 where
  pub six : length clocks ≡ 6
  pub first : (i : ℕ) → i < 3 → Silent of_second (get_or clocks i [])
  pub second : (i : ℕ) → i < 3 → Silent of_first (get_or clocks (3 + i) [])

pub tail : (row : Row) → T (good_row row) → Tail (tail_of row.tail)
unfolding good_row good_tail
tail row t =
    let clocks = tail_of row.tail in
    let at = together_at _ (together_at _ t 3) in
    let six = eqb→eq (length clocks) 6 (at 0) in
    record {
      six = six;
      first = λ i h.
          silent-from of_second (get_or clocks i []) (rw (get_or-take 3 clocks i [] h) at (every-at (silent of_second) [] (take 3 clocks) (at 1) i (simp length-take (omega arith))));
      second = λ i h.
          silent-from of_first (get_or clocks (3 + i) []) (rw (get_or-drop 3 clocks i []) at (every-at (silent of_first) [] (drop 3 clocks) (at 2) i (simp length-drop (omega arith))));
    }
