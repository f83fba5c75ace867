-- The X of every clock, taken out of coded bits clock by clock.
-- Assumes nothing.
use mathlib.Core.Path.{◌≡◌, refl, sym, ap, ◌∙◌}
use mathlib.Core.Bool.{Bool}
use mathlib.Core.List.{List, [], ◌∷◌, ◌++◌, map, append-nil}
use Prim.Native.Nat.{ℕ, suc, ◌+◌, ◌-◌, ◌%◌, ◌<◌, ◌≤◌}
use native.Mathlib.Nat.{mod-add-mod, mod-eq_of_lt, mod-lt, sub-zero}
use native.Mathlib.Numerals.{add-one}
use native.Mathlib.Omega.{arith}
use lib.Dec.{T}
use lib.ListN.{length, get_or, set, take, drop, length-map, get_or-map}
use lib.Seq.{append_snoc, take_all}
use Rattle.std.proofs.lemmas.List.{take_more_set}
use Rattle.bits.specs.Bits.{is_one}
use Rattle.distance.specs.Working.Coding.{x_bits}
use Rattle.distance.proofs.Weave.{x_bits-next}
use Rattle.links.specs.declared.Row.{Row}
use Rattle.links.specs.Patterns.{pattern_of, flags_at, total}
use Rattle.links.specs.Sizes.{passed_on, image_length}
use Rattle.links.specs.Working.Good.{good_row}
use Rattle.links.proofs.GoodFlags.{clock-at, pattern}
use Rattle.links.proofs.PassedOn.{passed_on-next, passed_on-within, total_x}
use Rattle.turbo.specs.Working.Parity.{counts_from, counts_of}

-- the flags of the pattern's clocks
abbrev clocks_of : Row → List (List ℕ)
clocks_of row = pattern_of row.pattern

-- at clock s: the next X stands at `at`, `clock` is the clock's place in the pattern, and u holds the X of the clocks before
pub record Taking (row : Row) (coded : List ℕ) (at clock s : ℕ) (u : List Bool) : Type 0 where
  pub place : at ≡ passed_on (clocks_of row) 0 s
  pub turn : clock ≡ s % length (clocks_of row)
  pub phase : clock < length (clocks_of row)
  pub taken : take s u ++ x_bits (counts_from (clocks_of row) s (row.k - s)) (drop at (map is_one coded)) ≡ x_bits (counts_of row) (map is_one coded)
  -- there is an X, and the clock's bits are coded
  pub some : 0 < total (get_or (clocks_of row) clock [])
  pub inside : s < row.k → at + total (get_or (clocks_of row) clock []) ≤ length coded

module _ (row : Row) (good : T (good_row row)) (coded : List ℕ) (size : length coded ≡ image_length row) where
  -- X passes at every clock, and the coded bits are enough for all of them
  one : (s : ℕ) → total (flags_at (clocks_of row) s) ≡ suc (total (drop 1 (flags_at (clocks_of row) s)))
  one s = total_x (flags_at (clocks_of row) s) (clock-at (clocks_of row) (pattern row good) s).x

  enough : (s : ℕ) → s < row.k → passed_on (clocks_of row) 0 s + total (flags_at (clocks_of row) s) ≤ length coded
  unfolding image_length
  enough s h =
      omega (arith, size, passed_on-next (clocks_of row) s, passed_on-within (clocks_of row) (s + 1) row.k (omega arith))

  taking : (at clock s : ℕ) (u : List Bool) → at ≡ passed_on (clocks_of row) 0 s → clock ≡ s % length (clocks_of row)
      → take s u ++ x_bits (counts_from (clocks_of row) s (row.k - s)) (drop at (map is_one coded)) ≡ x_bits (counts_of row) (map is_one coded)
      → Taking row coded at clock s u
  unfolding flags_at
  taking at clock s u e t taken =
      let p = clocks_of row in
      let phase : clock < length p = omega (arith, t, mod-lt s (pattern row good).some) in
      let here : total (get_or p clock []) ≡ total (flags_at p s) = ap (λ (c : ℕ). total (get_or p c [])) t in
      record {
        place = e;
        turn = t;
        phase = phase;
        taken = taken;
        some = omega (arith, here, one s);
        inside = λ h. omega (arith, here, e, enough s h);
      }

  pub taking_start : (u : List Bool) → Taking row coded 0 0 0 u
  unfolding passed_on
  taking_start u = taking 0 0 0 u refl (sym (mod-eq_of_lt (pattern row good).some)) (rw sub-zero refl)

  module _ {at clock s : ℕ} {u : List Bool} (w : Taking row coded at clock s u) where
    -- the X at hand, and what is left behind it
    next_x : s < row.k → x_bits (counts_from (clocks_of row) s (row.k - s)) (drop at (map is_one coded))
        ≡ is_one (get_or coded at 0) ∷ x_bits (counts_from (clocks_of row) (s + 1) (row.k - (s + 1))) (drop (at + total (flags_at (clocks_of row) s)) (map is_one coded))
    unfolding counts_from
    next_x h =
        let p = clocks_of row in
        let skip = total (drop 1 (flags_at p s)) in
        let left : row.k - s ≡ suc (row.k - (s + 1)) = omega arith in
        let here : at < length (map is_one coded) = omega (arith, w.place, enough s h, one s, length-map coded is_one) in
        let next : at + 1 + skip ≡ at + total (flags_at p s) = omega (arith, one s) in
        rw (left, x_bits-next skip at (counts_from p (suc s) (row.k - (s + 1))) (map is_one coded) here, next, get_or-map is_one coded at 0, add-one) refl

    pub taking_more : s < row.k → s < length u → (sum clock' : ℕ) → sum ≡ total (get_or (clocks_of row) clock []) → clock' ≡ (clock + 1) % length (clocks_of row)
        → Taking row coded (at + sum) clock' (s + 1) (set u s (is_one (get_or coded at 0)))
    unfolding flags_at
    taking_more h room sum clock' e t =
        let p = clocks_of row in
        let here : sum ≡ total (flags_at p s) = e ∙ ap (λ (c : ℕ). total (get_or p c [])) w.turn in
        taking (at + sum) clock' (s + 1) (set u s (is_one (get_or coded at 0)))
        (omega (arith, w.place, here, passed_on-next p s))
        (t ∙ ap (λ (c : ℕ). (c + 1) % length p) w.turn ∙ mod-add-mod s (length p) 1)
        (rw (take_more_set u s (is_one (get_or coded at 0)) room, append_snoc, here, ← next_x h) w.taken)

    pub taking_done : row.k ≤ s → length u ≡ row.k → u ≡ x_bits (counts_of row) (map is_one coded)
    unfolding counts_from x_bits
    taking_done h long =
        let none : row.k - s ≡ 0 = omega arith in
        sym (append-nil u) ∙ rw (none, take_all s u (omega arith)) at w.taken
