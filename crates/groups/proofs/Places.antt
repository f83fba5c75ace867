-- The places that pass in a group: how many they are at most, and clock by clock.
-- Assumes nothing.
use mathlib.Core.Path.{◌≡◌}
use mathlib.Core.List.{List, [], ◌∷◌, ◌++◌}
use Prim.Native.Nat.{ℕ, zero, suc, ◌+◌, ◌-◌, ◌*◌, ◌%◌, ◌≤◌, ◌<◌, zero-le}
use native.Mathlib.Numerals.{add-one}
use native.Mathlib.Omega.{arith}
use lib.ListN.{length, get_or, replicate, length-append, length-replicate}
use Rattle.links.specs.Patterns.{flags_at}
use Rattle.links.specs.Working.Twice.{AtMostTwice, AllAtMostTwice}
use Rattle.turbo.specs.Coded.{passed}
use Rattle.groups.specs.Working.Together.{passed_from}
use Rattle.groups.specs.Working.Group.{places_of, places_from}

length_twice : {A : Type 0} (flags : List ℕ) (xs : List A) → AtMostTwice flags → length (passed flags xs) ≤ 2 * length xs
unfolding passed
length_twice [] xs h = zero-le
length_twice (flag ∷ flags) [] h = zero-le
length_twice (flag ∷ flags) (x ∷ xs) h =
    omega (arith, length-append (replicate flag x) (passed flags xs), length-replicate flag x, h 0, length_twice flags xs (λ i. h (suc i)))

module _ (pattern : List (List ℕ)) where
  pub length_places : AllAtMostTwice pattern → (c n : ℕ) → length (passed_from pattern c (places_from c n)) ≤ 12 * n
  unfolding passed_from places_from places_of flags_at
  length_places h c zero = zero-le
  length_places h c (suc n) =
      let flags = flags_at pattern c in
      omega (
        arith,
        length-append (passed flags (places_of c)) (passed_from pattern (suc c) (places_from (suc c) n)),
        length_twice flags (places_of c) (h (c % length pattern)),
        length_places h (suc c) n,
      )

  pub places_more : (c : ℕ) → c < 24
      → passed_from pattern c (places_from c (24 - c)) ≡ passed (get_or pattern (c % length pattern) []) (places_of c) ++ passed_from pattern (c + 1) (places_from (c + 1) (24 - (c + 1)))
  unfolding passed_from places_from flags_at
  places_more c h = let more : 24 - c ≡ suc (24 - (c + 1)) = omega arith in rw (more, add-one)

  pub places_done : (c : ℕ) → 24 ≤ c → passed_from pattern c (places_from c (24 - c)) ≡ []
  unfolding passed_from places_from
  places_done c h = let none : 24 - c ≡ 0 = omega arith in rw none
