-- What a group of clocks passes on, and what the block has left behind it.
-- Assumes nothing.
use mathlib.Core.Path.{◌≡◌, refl, sym, ap, ap₂, ◌∙◌}
use mathlib.Core.Bool.{Bool}
use mathlib.Core.List.{List, [], ◌∷◌, ◌++◌, map, map-append, append_assoc}
use Prim.Native.Nat.{ℕ, suc, ◌+◌, ◌%◌, ◌≤◌}
use native.Mathlib.Nat.{add-suc, suc-add, mod-add-mod, zero-add, add-zero}
use native.Mathlib.Omega.{arith}
use lib.ListN.{length, get_or, take, drop, take-append-drop}
use lib.Seq.{length-take-le}
use Rattle.bits.specs.Bits.{byte}
use Rattle.links.specs.Patterns.{flags_at}
use Rattle.turbo.specs.Encoder.{Register, next}
use Rattle.turbo.specs.Coded.{six, passed, coded_from}
use Rattle.turbo.specs.Working.Parity.{register_after}
use Rattle.turbo.proofs.Passing.{map-passed}
use Rattle.groups.specs.Working.Together.{sixes, passed_from}

-- ---- what the clocks pass on
pub map-passed_from : {A B : Type 0} (f : A → B) (pattern : List (List ℕ)) (s : ℕ) (rows : List (List A)) → map f (passed_from pattern s rows) ≡ passed_from pattern s (map (map f) rows)
unfolding passed_from
map-passed_from f pattern s [] = refl
map-passed_from f pattern s (row ∷ rows) =
    map-append f (passed (flags_at pattern s) row) (passed_from pattern (suc s) rows)
    ∙ ap₂ ◌++◌ (map-passed f (flags_at pattern s) row) (map-passed_from f pattern (suc s) rows)

-- ---- a block from a group on
coded-group : (pattern tail : List (List ℕ)) (s : ℕ) (a b : Register) (us vs u v : List Bool) → length us ≡ length vs
    → coded_from pattern tail s a b (us ++ u) (vs ++ v) ≡ passed_from pattern s (sixes a b us vs) ++ coded_from pattern tail (s + length us) (register_after a us) (register_after b vs) u v
unfolding coded_from passed_from sixes register_after
coded-group pattern tail s a b [] [] u v e = rw add-zero
coded-group pattern tail s a b [] (y ∷ vs) u v e = absurd (omega arith)
coded-group pattern tail s a b (x ∷ us) [] u v e = absurd (omega arith)
coded-group pattern tail s a b (x ∷ us) (y ∷ vs) u v e =
    let first = passed (flags_at pattern s) (six a b x y) in
    let rest = coded_from pattern tail (suc s + length us) (register_after (next a x) us) (register_after (next b y) vs) u v in
    ap (◌++◌ first) (coded-group pattern tail (suc s) (next a x) (next b y) us vs u v (omega arith))
    ∙ sym (append_assoc first (passed_from pattern (suc s) (sixes (next a x) (next b y) us vs)) rest)
    ∙ rw (add-suc s (length us), suc-add s (length us))

-- clocks behind whole periods are coded as those from clock 0 on, since the pattern begins again
again : (pattern tail : List (List ℕ)) (s m : ℕ) (a b : Register) (u v : List Bool) → s % length pattern ≡ 0 → coded_from pattern tail (s + m) a b u v ≡ coded_from pattern tail m a b u v
unfolding coded_from flags_at
again pattern tail s m a b [] v e = refl
again pattern tail s m a b (x ∷ u) [] e = refl
again pattern tail s m a b (x ∷ u) (y ∷ v) e =
    let n = length pattern in
    let place : (s + m) % n ≡ m % n = sym (mod-add-mod s n m) ∙ ap (λ (k : ℕ). (k + m) % n) e ∙ ap (λ (k : ℕ). k % n) (zero-add m) in
    ap₂ (λ (k : ℕ) (rest : List Bool). passed (get_or pattern k []) (six a b x y) ++ rest) place
    (rw (← add-suc s m) (again pattern tail s (suc m) (next a x) (next b y) u v e))

-- what is left at a group of n clocks is what the group passes on, and what is left behind it
module _ (pattern tail : List (List ℕ)) (n : ℕ) (whole : n % length pattern ≡ 0) (a b : Register) (u v : List Bool) where
  pub left-group : n ≤ length u → length u ≡ length v → map byte (coded_from pattern tail 0 a b u v)
      ≡ passed_from pattern 0 (map (map byte) (sixes a b (take n u) (take n v)))
      ++ map byte (coded_from pattern tail 0 (register_after a (take n u)) (register_after b (take n v)) (drop n u) (drop n v))
  left-group h same =
      let us = take n u in
      let vs = take n v in
      let lu : length us ≡ n = length-take-le n u h in
      let lv : length vs ≡ n = length-take-le n v (omega arith) in
      let group = passed_from pattern 0 (sixes a b us vs) in
      let rest = coded_from pattern tail 0 (register_after a us) (register_after b vs) (drop n u) (drop n v) in
      let split : coded_from pattern tail 0 a b u v ≡ group ++ rest =
      ap₂ (coded_from pattern tail 0 a b) (sym (take-append-drop n u)) (sym (take-append-drop n v))
      ∙ coded-group pattern tail 0 a b us vs (drop n u) (drop n v) (lu ∙ sym lv)
      ∙ rw (lu, zero-add) (ap (◌++◌ group) (rw add-zero at (again pattern tail n 0 (register_after a us) (register_after b vs) (drop n u) (drop n v) whole))) in
      ap (map byte) split ∙ map-append byte group rest ∙ ap (λ (p : List ℕ). p ++ map byte rest) (map-passed_from byte pattern 0 (sixes a b us vs))
