-- What is laid piece by piece is laid as one.
-- Assumes nothing.
use mathlib.Core.Path.{◌≡◌, refl, sym, ap, ◌∙◌}
use mathlib.Core.Bool.{Bool, true}
use mathlib.Core.List.{List, [], ◌∷◌, ◌++◌, append-nil, append_assoc}
use Prim.Native.Nat.{ℕ, suc, ◌+◌, ◌<◌, ◌≤◌}
use native.Mathlib.Nat.{add-zero, zero-add, add_assoc}
use native.Mathlib.Numerals.{add-one}
use native.Mathlib.Omega.{arith}
use lib.ListN.{length, set, take, drop, take-append-drop, drop_of_length-le, length-append, length-drop}
use lib.Seq.{set_split, append_snoc, take_at, drop_at, take-append-le, drop-append-le, take-append-add, drop-append-add, drop-drop, length-take-le}
use borrow.Rule.Slice.PartMut.{put_mid}
use Rattle.lists.specs.Every.{every}
use Rattle.lists.specs.Over.{over, Room}
use Rattle.lists.specs.Working.Laying.{Lays, Laying}
use Rattle.lists.proofs.Every.{every_append, every_take, every_drop}

module _ {A : Type 0} where
  -- nothing laid changes nothing
  pub over-nil : (at : ℕ) (old : List A) → over at [] old ≡ old
  unfolding over
  over-nil at old = rw (add-zero, append-nil) (take-append-drop at old)

  -- laid from the start on
  pub over_zero : (p old : List A) → over 0 p old ≡ p ++ drop (length p) old
  unfolding over
  over_zero p old = rw zero-add

  -- a store lays one element
  pub over-set : (at : ℕ) (v : A) (old : List A) → at < length old → set old at v ≡ over at (v ∷ []) old
  unfolding over
  over-set at v old h = set_split old at v h ∙ sym (append_snoc (take at old) v (drop (suc at) old)) ∙ rw add-one

  -- what is written into a part of a list is laid over it
  pub put_mid-over : (at n : ℕ) (p old : List A) → n ≡ length p → put_mid at n old p ≡ over at p old
  unfolding over
  put_mid-over at n p old e =
      rw e (sym (append_assoc (take at old) p (drop (length p) (drop at old))) ∙ ap (λ (rest : List A). take at old ++ p ++ rest) (drop-drop (length p) at old))

  front : (at : ℕ) (p old : List A) → Room at p old → length (take at old ++ p) ≡ at + length p
  front at p old h = length-append (take at old) p ∙ ap (λ (n : ℕ). n + length p) (length-take-le at old (omega arith))

  pub over-length : (at : ℕ) (p old : List A) → Room at p old → length (over at p old) ≡ length old
  unfolding over
  over-length at p old h =
      omega (arith, length-append (take at old ++ p) (drop (at + length p) old), front at p old h, length-drop (at + length p) old)

  -- one piece after another is both as one
  pub over-over : (at : ℕ) (p q old : List A) → Room at p old → over (at + length p) q (over at p old) ≡ over at (p ++ q) old
  unfolding over
  over-over at p q old h =
      let n = at + length p in
      let l = take at old ++ p in
      let f = take_at l (drop n old) n (front at p old h) in
      let b : drop (n + length q) (l ++ drop n old) ≡ drop (n + length q) old = sym (drop-drop (length q) n (l ++ drop n old)) ∙ ap (drop (length q)) (drop_at l (drop n old) n (front at p old h)) ∙ drop-drop (length q) n old in
      rw (f, b, length-append p q, ← add_assoc at (length p) (length q), ← append_assoc (take at old) p q)

  -- where a place is in the list, what stands before it, what is laid from it on, and what stands behind that
  module _ (at : ℕ) (p old : List A) (h : at ≤ length old) where
    pub over-before : take at (over at p old) ≡ take at old
    unfolding over
    over-before = ap (take at) (append_assoc (take at old) p (drop (at + length p) old)) ∙ take_at (take at old) (p ++ drop (at + length p) old) at (length-take-le at old h)

    pub over-from : drop at (over at p old) ≡ p ++ drop (at + length p) old
    unfolding over
    over-from = ap (drop at) (append_assoc (take at old) p (drop (at + length p) old)) ∙ drop_at (take at old) (p ++ drop (at + length p) old) at (length-take-le at old h)

    pub over-piece : take (length p) (drop at (over at p old)) ≡ p
    over-piece = ap (take (length p)) over-from ∙ take_at p (drop (at + length p) old) (length p) refl

    pub over-behind : drop (at + length p) (over at p old) ≡ drop (at + length p) old
    over-behind = sym (drop-drop (length p) at (over at p old)) ∙ ap (drop (length p)) over-from ∙ drop_at p (drop (at + length p) old) (length p) refl

  -- what is as long as what stood there takes its place whole
  pub over-all : (p old : List A) → length p ≡ length old → over 0 p old ≡ p
  over-all p old e = over_zero p old ∙ ap (λ (rest : List A). p ++ rest) (drop_of_length-le old {i = length p} (omega (arith, e))) ∙ append-nil p

  -- laid over the first of two lists, or behind it over the second
  pub over_first : (at : ℕ) (p a b : List A) → Room at p a → over at p (a ++ b) ≡ over at p a ++ b
  unfolding over
  over_first at p a b h =
      rw (take-append-le at a b (omega arith), drop-append-le (at + length p) a b h, append_assoc (take at a ++ p) (drop (at + length p) a) b)

  pub over-second : (at : ℕ) (p a b : List A) → over (length a + at) p (a ++ b) ≡ a ++ over at p b
  unfolding over
  over-second at p a b =
      rw (take-append-add a b at, add_assoc (length a) at (length p), drop-append-add a b (at + length p), append_assoc a (take at b) p, append_assoc a (take at b ++ p) (drop (at + length p) b))

-- what passes a test, laid over what passes it
pub over-every : {A : Type 0} (test : A → Bool) (at : ℕ) (p old : List A) → every test p ≡ true → every test old ≡ true → every test (over at p old) ≡ true
unfolding over
over-every test at p old e f =
    every_append test (take at old ++ p) (drop (at + length p) old) (every_append test (take at old) p (every_take test at old f) e) (every_drop test (at + length p) old f)

-- a store, as one step of a loop that lays
pub lays_one : (at v : ℕ) (old : List ℕ) → at < length old → Lays at (v ∷ []) old (set old at v) (at + 1)
lays_one at v old h = (refl, over-set at v old h)

-- a loop that lays: at its start all is left
pub start : (old : List ℕ) (from : ℕ) (goal : List ℕ) → Room from goal old → Laying old from goal old from goal
start old from goal h = record { finish = refl; ends = refl; long = refl; room = h }

module _ {old : List ℕ} {from : ℕ} {goal out : List ℕ} {at : ℕ} {rest : List ℕ} where
  -- there is room for all that is left, for the next piece, and for the next element
  pub fits_rest : Laying old from goal out at rest → Room at rest out
  fits_rest w = omega (arith, w.ends, w.long, w.room)

  pub fits_piece : (p rest' : List ℕ) → Laying old from goal out at rest → rest ≡ p ++ rest' → Room at p out
  fits_piece p rest' w e = omega (arith, ap length e, length-append p rest', w.ends, w.long, w.room)

  pub fits : (v : ℕ) (rest' : List ℕ) → Laying old from goal out at rest → rest ≡ v ∷ rest' → at < length out
  fits v rest' w e = let room = fits_piece (v ∷ []) rest' w e in omega arith

  -- the next piece is laid, or the next element stored
  pub more_piece : (p rest' : List ℕ) {out' : List ℕ} {place : ℕ} → Laying old from goal out at rest → rest ≡ p ++ rest' → Lays at p out out' place → Laying old from goal out' place rest'
  more_piece p rest' w e l =
      let room = fits_piece p rest' w e in
      record {
        finish = rw (l.1, l.0, over-over at p rest' out room, ← e) w.finish;
        ends = omega (arith, ap length e, length-append p rest', w.ends, l.0);
        long = ap length l.1 ∙ over-length at p out room ∙ w.long;
        room = w.room;
      }

  pub more : (v : ℕ) (rest' : List ℕ) → Laying old from goal out at rest → rest ≡ v ∷ rest' → Laying old from goal (set out at v) (at + 1) rest'
  more v rest' w e = more_piece (v ∷ []) rest' w e (lays_one at v out (fits v rest' w e))

  -- the last call lays all that is left
  pub last : {out' : List ℕ} {place : ℕ} → Laying old from goal out at rest → Lays at rest out out' place → Lays from goal old out' place
  last w l = (l.0 ∙ w.ends, l.1 ∙ w.finish)

  -- at its end nothing is left
  pub done : Laying old from goal out at rest → rest ≡ [] → Lays from goal old out at
  done w e = (omega (arith, ap length e, w.ends), sym (over-nil at out) ∙ rw (← e) w.finish)

-- two calls in a row lay two pieces
module _ (at : ℕ) (p q old : List ℕ) {goal : List ℕ} (e : goal ≡ p ++ q) (room : Room at goal old) where
  pub first_fits : Room at p old
  first_fits = fits_piece p q (start old at goal room) e

  pub second_fits : {mid : List ℕ} {between : ℕ} → Lays at p old mid between → Room between q mid
  second_fits first = fits_rest (more_piece p q (start old at goal room) e first)

  pub both-laid : {mid new : List ℕ} {between end : ℕ} → Lays at p old mid between → Lays between q mid new end → Lays at goal old new end
  both-laid first second = last (more_piece p q (start old at goal room) e first) second
