-- What is left to lay at a clock, in bytes: of the clock's six, of the ending, and of a block.
-- Assumes nothing.
use mathlib.Core.Path.{◌≡◌, refl, sym, ap, ap₂, ◌∙◌}
use mathlib.Core.Logic.{◌⊎◌, inl, inr}
use mathlib.Core.Bool.{Bool, true, false}
use mathlib.Core.List.{List, [], ◌∷◌, ◌++◌, map, map-append}
use Prim.Native.Nat.{ℕ, suc, ◌+◌, ◌%◌, ◌<◌, ◌≤◌}
use native.Mathlib.Numerals.{add-one}
use native.Mathlib.Omega.{arith}
use lib.ListN.{length, get_or, take, drop, replicate, drop_of_length-le}
use lib.Seq.{drop-cons}
use Rattle.bits.specs.Bits.{byte}
use Rattle.links.specs.Patterns.{flags_at}
use Rattle.turbo.specs.Encoder.{Register, feedback, next}
use Rattle.turbo.specs.Coded.{six, passed, alone, ending_of, ending, coded_from}
use Rattle.turbo.proofs.Passing.{map-passed}

-- ---- of the six of a clock: what the first flag passes on, then what the others do
pub passed_more : (flags bits : List ℕ) {flags' bits' : List ℕ} {flag bit : ℕ} → (flags ≡ flag ∷ flags') × (bits ≡ bit ∷ bits') → passed flags bits ≡ replicate flag bit ++ passed flags' bits'
unfolding passed
passed_more flags bits e = ap₂ passed e.0 e.1

pub passed-done : (flags bits : List ℕ) → (flags ≡ []) ⊎ (bits ≡ []) → passed flags bits ≡ []
unfolding passed
passed-done flags bits (inl e) = rw e
passed-done [] bits (inr e) = refl
passed-done (flag ∷ flags) bits (inr e) = rw e

-- what a clock passes on, and what is behind it, as bytes
bytes-parts : (flags : List ℕ) (bits behind : List Bool) → map byte (passed flags bits ++ behind) ≡ passed flags (map byte bits) ++ map byte behind
bytes-parts flags bits behind = map-append byte (passed flags bits) behind ∙ ap (λ (p : List ℕ). p ++ map byte behind) (map-passed byte flags bits)

-- ---- of the ending of one encoder, from clock i on
pub ending_more : (second : Bool) (clocks : List (List ℕ)) (i : ℕ) (r : Register) {after : Register} → i < length clocks → after ≡ next r (feedback r)
    → map byte (ending_of second (drop i clocks) r) ≡ passed (get_or clocks i []) (map byte (alone second r)) ++ map byte (ending_of second (drop (i + 1) clocks) after)
unfolding ending_of
ending_more second clocks i r h fed =
    rw (drop-cons clocks i [] h, add-one, fed) (bytes-parts (get_or clocks i []) (alone second r) (ending_of second (drop (suc i) clocks) (next r (feedback r))))

pub ending-done : (second : Bool) (clocks : List (List ℕ)) (i : ℕ) (r : Register) → length clocks ≤ i → map byte (ending_of second (drop i clocks) r) ≡ []
unfolding ending_of
ending-done second clocks i r h = rw (drop_of_length-le clocks h)

-- of both: the first encoder's from the first three clocks, then the second's from what is behind
pub ending-both : (tail : List (List ℕ)) (a b : Register) {first second : List (List ℕ)} → first ≡ take 3 tail → second ≡ drop 3 tail
    → map byte (ending tail a b) ≡ map byte (ending_of false first a) ++ map byte (ending_of true second b)
ending-both tail a b e f = rw (e, f) (map-append byte (ending_of false (take 3 tail) a) (ending_of true (drop 3 tail) b))

-- the same of six clocks, one by one
module _ (tail : List (List ℕ)) (six : length tail ≡ 6) where
  first-three : take 3 tail ≡ get_or tail 0 [] ∷ get_or tail 1 [] ∷ get_or tail 2 [] ∷ []
  first-three =
      let behind : drop 1 tail ≡ get_or tail 1 [] ∷ get_or tail 2 [] ∷ drop 3 tail = rw (drop-cons tail 1 [] (omega (arith, six)), drop-cons tail 2 [] (omega (arith, six))) refl in
      ap (take 3) (drop-cons tail 0 [] (omega (arith, six)) ∙ ap (λ (rest : List (List ℕ)). get_or tail 0 [] ∷ rest) behind)

  last-three : drop 3 tail ≡ get_or tail 3 [] ∷ get_or tail 4 [] ∷ get_or tail 5 [] ∷ []
  last-three = rw (drop-cons tail 3 [] (omega (arith, six)), drop-cons tail 4 [] (omega (arith, six)), drop-cons tail 5 [] (omega (arith, six)), drop_of_length-le tail {i = 6} (omega (arith, six))) refl

  pub ending-six : (a b : Register) → map byte (ending tail a b)
      ≡ map byte (ending_of false (get_or tail 0 [] ∷ get_or tail 1 [] ∷ get_or tail 2 [] ∷ []) a) ++ map byte (ending_of true (get_or tail 3 [] ∷ get_or tail 4 [] ∷ get_or tail 5 [] ∷ []) b)
  ending-six a b = ending-both tail a b (sym first-three) (sym last-three)

-- ---- of a block at clock s, whose place in the pattern is c: u are its bits that are left, v the same interleaved
module _ (pattern tail : List (List ℕ)) (s : ℕ) (a b : Register) where
  pub coded_more : (u v : List Bool) {c s' : ℕ} {x y : Bool} {u' v' : List Bool} → c ≡ s % length pattern → s' ≡ s + 1 → (u ≡ x ∷ u') × (v ≡ y ∷ v')
      → map byte (coded_from pattern tail s a b u v)
      ≡ passed (get_or pattern c []) (map byte (six a b x y)) ++ map byte (coded_from pattern tail s' (next a x) (next b y) u' v')
  unfolding coded_from flags_at
  coded_more u v {x = x} {y = y} {u' = u'} {v' = v'} place after e =
      rw (e.0, e.1, place, after, add-one) (bytes-parts (flags_at pattern s) (six a b x y) (coded_from pattern tail (suc s) (next a x) (next b y) u' v'))

  -- at the end the ending
  pub coded-done : (u v : List Bool) → (u ≡ []) ⊎ (v ≡ []) → map byte (coded_from pattern tail s a b u v) ≡ map byte (ending tail a b)
  unfolding coded_from
  coded-done u v (inl e) = rw e
  coded-done [] v (inr e) = refl
  coded-done (x ∷ u) v (inr e) = rw e
