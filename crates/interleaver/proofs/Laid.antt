-- The second encoder's inputs as the code lays them, bit by bit along a row and row by row.
-- Assumes nothing.
use mathlib.Core.Path.{◌≡◌, refl, ap, ap₂, ◌∙◌}
use mathlib.Core.Bool.{Bool, false}
use mathlib.Core.List.{List, ◌∷◌, ◌++◌}
use Prim.Native.Nat.{ℕ, zero, suc, ◌+◌, ◌-◌, ◌*◌, ◌/◌, ◌%◌, ◌<◌}
use native.Mathlib.Nat.{zero-add, add-zero, add-mul}
use native.Mathlib.Omega.{arith}
use lib.Dec.{T}
use lib.ListN.{length, get_or, set, take, length-set}
use borrow.Rule.Slice.PartMut.{put_mid}
use Rattle.std.proofs.lemmas.List.{take_more_set}
use Rattle.std.proofs.lemmas.Slice.{take-put_mid}
use Rattle.turbo.proofs.Interleaved.{length_from}
use Rattle.links.specs.declared.Row.{Row}
use Rattle.links.specs.Working.Good.{good_row}
use Rattle.turbo.specs.Interleaver.{position, interleaved_from}
use Rattle.turbo.proofs.Permutation.{position-clock-from}
use Rattle.interleaver.specs.declared.Start.{Start}
use Rattle.interleaver.specs.Working.Starts.{distance, start_of}
use Rattle.interleaver.proofs.Stepping.{row_inside, cell_at, cell_inside, position_cell, row-begins, next_pair, second-of_pair}

-- n inputs from the s-th on, and m more
from-append : (row : Row) (u : List Bool) (s n m : ℕ) → interleaved_from row u s (n + m) ≡ interleaved_from row u s n ++ interleaved_from row u (s + n) m
unfolding interleaved_from
from-append row u s zero m = rw (zero-add m, add-zero s)
from-append row u s (suc n) m =
    let on : suc s + n ≡ s + suc n = omega arith in
    let more : suc n + m ≡ suc (n + m) = omega arith in
    rw more (ap {B = List Bool} (λ rest. get_or u (position row s - 1) false ∷ rest) (from-append row u (suc s) n m ∙ rw on))

-- a row's bits are laid up to place s of it, and x is π - 2 at the first of the pair at hand
pub record Walking (row : Row) (u : List Bool) (start : Start) (x s : ℕ) (out : List Bool) : Type 0 where
  pub at : x ≡ cell_at row 0 start.i (s / 2)
  pub inside : x + 1 < row.k
  pub laid : take s out ≡ interleaved_from row u (start.place + 1) s

module _ (row : Row) (good : T (good_row row)) (u : List Bool) (start : Start) (is : start ≡ start_of row start.i) where
  pub walk_begins : (out : List Bool) → Walking row u start (2 * start.t) 0 out
  unfolding interleaved_from start_of
  walk_begins out =
      let begins : 2 * start.t ≡ cell_at row 0 start.i 0 = ap (λ (s : Start). 2 * s.t) is ∙ row-begins row good start.i in
      record { at = begins; inside = omega (arith, begins, cell_inside row good 0 start.i 0); laid = refl }

  -- input s of the row, whose m is s mod 2, is the bit p
  laid_more : (m s p : ℕ) → s % 2 ≡ m → s < 2 * row.k2 → p + m ≡ cell_at row m start.i (s / 2) + 1 → (out : List Bool) → s < length out
      → take s out ≡ interleaved_from row u (start.place + 1) s → take (s + 1) (set out s (get_or u p false)) ≡ interleaved_from row u (start.place + 1) (s + 1)
  unfolding interleaved_from start_of
  laid_more m s p e h f out room laid =
      let clock : start.place + 1 + s ≡ 2 * (start.i * row.k2 + s / 2) + m + 1 = omega (arith, ap (λ (s : Start). s.place) is) in
      let place : position row (start.place + 1 + s) - 1 ≡ p =
      omega (arith, ap (position row) clock, position-clock-from row good m start.i (s / 2) (omega arith) (omega arith), position_cell row good m start.i (s / 2)) in
      rw (take_more_set out s (get_or u p false) room, laid, from-append row u (start.place + 1) s 1, place) refl

  module _ {x s : ℕ} {out : List Bool} (w : Walking row u start x s out) (h : s < 2 * row.k2) (room : s < length out) where
    pub walk_first : s % 2 ≡ 0 → Walking row u start x (s + 1) (set out s (get_or u (x + 1) false))
    walk_first e =
        let same : (s + 1) / 2 ≡ s / 2 = omega arith in
        record { at = rw same w.at; inside = w.inside; laid = laid_more 0 s (x + 1) e h (omega (arith, w.at)) out room w.laid }

    pub walk_second : s % 2 ≡ 1 → (b x' : ℕ) → b ≡ (x + distance row 21) % row.k → x' ≡ (x + start.step) % row.k
        → Walking row u start x' (s + 1) (set out s (get_or u b false))
    unfolding start_of
    walk_second e b x' f g =
        let next : (s + 1) / 2 ≡ s / 2 + 1 = omega arith in
        let on : x' ≡ cell_at row 0 start.i (s / 2 + 1) = g ∙ rw (w.at, ap (λ (s : Start). s.step) is) (next_pair row good start.i (s / 2)) in
        let second : b ≡ cell_at row 1 start.i (s / 2) = f ∙ rw w.at (second-of_pair row good start.i (s / 2)) in
        record {
          at = rw next on;
          inside = omega (arith, on, cell_inside row good 0 start.i (s / 2 + 1));
          laid = laid_more 1 s b e h (omega (arith, second)) out room w.laid;
        }

  -- a pair is laid: the bits of its two places
  pub walk_pair : {x s : ℕ} {out : List Bool} → Walking row u start x s out → s % 2 ≡ 0 → s + 1 < 2 * row.k2 → s + 1 < length out
      → (b x' : ℕ) → b ≡ (x + distance row 21) % row.k → x' ≡ (x + start.step) % row.k
      → Walking row u start x' (s + 2) (set (set out s (get_or u (x + 1) false)) (s + 1) (get_or u b false))
  walk_pair {x} {s} {out} w e h room b x' f g =
      let on : s + 1 + 1 ≡ s + 2 = omega arith in
      let first = walk_first w (omega (arith, h)) (omega (arith, room)) e in
      rw on at (walk_second first h (simp length-set (room)) (omega (arith, e)) b x' f g)

  -- the whole row is laid: its inputs stand in their part of v
  pub rows_more : (next : Start) → next ≡ start_of row (start.i + 1) → start.i < row.k1 / 2 → (v inputs : List Bool) → length v ≡ row.k
      → take start.place v ≡ interleaved_from row u 1 start.place → inputs ≡ interleaved_from row u (start.place + 1) (2 * row.k2) → (n : ℕ)
      → take next.place (put_mid start.place n v inputs) ≡ interleaved_from row u 1 next.place
  unfolding start_of
  rows_more next is' h v inputs long laid e n =
      let place : next.place ≡ start.place + 2 * row.k2 = omega (arith, ap (λ (s : Start). s.place) is, ap (λ (s : Start). s.place) is', add-mul start.i 1 row.k2) in
      let room = row_inside row good start.i h in
      let on : 1 + start.place ≡ start.place + 1 = omega arith in
      let size : next.place ≡ start.place + length inputs = omega (arith, place, ap length e, length_from row u (start.place + 1) (2 * row.k2)) in
      take-put_mid start.place n v inputs next.place size (omega (arith, room, ap (λ (s : Start). s.place) is))
      ∙ ap₂ ◌++◌ laid e ∙ rw (place, from-append row u 1 start.place (2 * row.k2), on) refl
