-- The code's table has an entry for each row of the definition's, and a search in it finds the place of a link's row.
-- Assumes nothing.
use mathlib.Core.Path.{◌≡◌, refl, sym}
use mathlib.Core.Bool.{Bool, true, false}
use mathlib.Core.List.{List, [], ◌∷◌, map}
use Prim.Native.Nat.{ℕ, ◌<◌}
use native.Mathlib.Omega.{arith}
use lib.Dec.{eqb}
use lib.ListN.{length, get_or}
use Rattle.std.proofs.Common.{Some, None, unwrap_or}
use Rattle.std.proofs.lemmas.Grind.{common_steps}
use Rattle.std.proofs.lemmas.List.Quantifiers.{position-Some}
use Rattle.std.specs.List.{position}
use Rattle.links.specs.declared.Row.{Row}
use Rattle.links.specs.Rows.{rows, no_row, place_in, place, offered, row_of}
use Rattle.links.specs.Sizes.{image_length}

-- a row as the code's table has it, with its N
abbrev pub Entry : Type 0
Entry = ℕ × ℕ × ℕ × ℕ × List ℕ × ℕ × ℕ × ℕ

abbrev pub entry : Row → Entry
entry r = (r.link, r.k, r.k1, r.k2, r.primes, r.pattern, r.tail, image_length r)

abbrev pub is_of : ℕ → Entry → Bool
is_of link e = eqb e.0 link

-- the place that a search for a link finds, or the number of rows, is its row's
searched : (rs : List Row) (link : ℕ) → unwrap_or (position (is_of link) (map entry rs)) (length rs) ≡ place_in rs link
unfolding place_in
searched [] link = refl
searched (r ∷ rs) link = grind (arith, common_steps, searched rs link)

pub placed : (link : ℕ) → unwrap_or (position (is_of link) (map entry rows)) (length rows) ≡ place link
placed link = searched rows link

-- what the search itself answers: the place of a link that is offered, and none of another
module _ (link : ℕ) where
  pub one_placed : (n : ℕ) → Some n ≡ position (is_of link) (map entry rows) → (offered link ≡ true) × (n < length rows) × (n ≡ place_in rows link) × (get_or rows n no_row ≡ row_of link)
  unfolding offered row_of
  one_placed n h =
      let inside = position-Some (is_of link) (map entry rows) n (entry no_row) (sym h) in
      grind (arith, common_steps, placed link, inside.0)

  pub none_placed : None ≡ position (is_of link) (map entry rows) → offered link ≡ false
  unfolding offered
  none_placed h = grind (arith, common_steps, placed link)
