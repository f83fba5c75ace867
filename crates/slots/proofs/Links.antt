-- The links that have slot bursts are offered, and have link words and rows.
-- Assumes nothing.
use mathlib.Core.Path.{◌≡◌, refl, sym}
use mathlib.Core.Bool.{Bool, true, false, true≢false, ◌||◌}
use Prim.Native.Nat.{ℕ, ◌<◌, ◌≤◌}
use lib.Dec.{T, eqb, ltb}
use borrow.Author.Tests.{eqb-true, ltb-true}
use Rattle.links.specs.declared.Row.{Row}
use Rattle.links.specs.Rows.{rows, place_in, offered}
use Rattle.links.specs.Sizes.{image_length}
use Rattle.links.specs.Working.Good.{longest_image, good_row}
use Rattle.links.proofs.Facts.{sizes}
use Rattle.slots.specs.Burst.{is_slot_link}

-- a test that holds of each of them
module _ (p : ℕ → Bool) (five : p 5 ≡ true) (six : p 6 ≡ true) (seven : p 7 ≡ true) (link : ℕ) where
  one_of : (a b c : Bool) → eqb link 5 ≡ a → eqb link 6 ≡ b → eqb link 7 ≡ c → (a || (b || c)) ≡ true → p link ≡ true
  one_of true b c e f g h = rw (eqb-true link 5 e) five
  one_of false true c e f g h = rw (eqb-true link 6 f) six
  one_of false false true e f g h = rw (eqb-true link 7 g) seven
  one_of false false false e f g h = absurd (true≢false (sym h))

  pub each : is_slot_link link ≡ true → p link ≡ true
  unfolding is_slot_link
  each h = one_of (eqb link 5) (eqb link 6) (eqb link 7) refl refl refl h

pub slot-offered : (link : ℕ) → is_slot_link link ≡ true → offered link ≡ true
unfolding offered rows place_in
slot-offered link h = each offered refl refl refl link h

pub slot-has-word : (link : ℕ) → is_slot_link link ≡ true → link < 64
slot-has-word link h = ltb-true link 64 (each (λ n. ltb n 64) refl refl refl link h)

-- the image of a good row is not too long
pub image_small : (row : Row) → T (good_row row) → image_length row ≤ longest_image
image_small row good = (sizes row good).image
