-- How many bits the clocks of a pattern and of a tail pass on.
-- Assumes nothing.
use mathlib.Core.Path.{◌≡◌}
use mathlib.Core.List.{List, [], ◌∷◌, ◌++◌}
use Prim.Native.Nat.{ℕ, zero, suc, ◌+◌, ◌-◌, ◌≤◌}
use native.Mathlib.Nat.{suc-add}
use native.Mathlib.Omega.{arith}
use lib.ListN.{get_or, take, drop, take-append-drop}
use Rattle.links.specs.Patterns.{flags_at, total}
use Rattle.links.specs.Sizes.{passed_on, tail_bits}

-- on m clocks and n more
passed_on_split : (clocks : List (List ℕ)) (s m n : ℕ) → passed_on clocks s (m + n) ≡ passed_on clocks s m + passed_on clocks (s + m) n
unfolding passed_on
passed_on_split clocks s zero n =
    let none : 0 + n ≡ n = omega arith in
    let here : s + 0 ≡ s = omega arith in
    rw (none, here) (omega arith)
passed_on_split clocks s (suc m) n =
    let next : s + suc m ≡ suc s + m = omega arith in
    rw (suc-add m n, next) (omega (arith, passed_on_split clocks (suc s) m n))

-- on one clock more, from the first on
pub passed_on-next : (clocks : List (List ℕ)) (n : ℕ) → passed_on clocks 0 (n + 1) ≡ passed_on clocks 0 n + total (flags_at clocks n)
unfolding passed_on
passed_on-next clocks n = let here : 0 + n ≡ n = omega arith in omega (arith, rw here at (passed_on_split clocks 0 n 1))

pub passed_on-within : (clocks : List (List ℕ)) (m n : ℕ) → m ≤ n → passed_on clocks 0 m ≤ passed_on clocks 0 n
passed_on-within clocks m n h =
    let all : m + (n - m) ≡ n = omega arith in
    omega (arith, rw all at (passed_on_split clocks 0 m (n - m)))

-- X and what passes behind it
pub total_x : (flags : List ℕ) → get_or flags 0 0 ≡ 1 → total flags ≡ suc (total (drop 1 flags))
unfolding total
total_x [] e = absurd (omega arith)
total_x (x ∷ flags) e = omega arith

-- of a tail in two parts
tail_bits-append : (first second : List (List ℕ)) → tail_bits (first ++ second) ≡ tail_bits first + tail_bits second
unfolding tail_bits
tail_bits-append [] second = omega arith
tail_bits-append (clock ∷ first) second = omega (arith, tail_bits-append first second)

pub tail_bits_split : (n : ℕ) (tail : List (List ℕ)) → tail_bits tail ≡ tail_bits (take n tail) + tail_bits (drop n tail)
tail_bits_split n tail = rw (take-append-drop n tail) at (tail_bits-append (take n tail) (drop n tail))
