-- The image of a block (document 01, "From datagram to block"), as far as reading it back needs to know: the k bits stand in it at fixed
-- places, since every clock passes its X on, and the scrambler adds a fixed sequence. What the parity bits and the tail are is left open.
use Rattle.std.specs.Prelude.{◌≡◌, Bool, List, [], ◌∷◌, map, ℕ, ◌≤◌, length, drop}
use Rattle.bits.specs.Working.Weave.{weave}
use Rattle.bits.specs.Xor.{xor_rows}

-- up to so many bits the register tells one wrong place from another; no link has more
abbrev pub longest : ℕ
longest = 117216

-- a link's coding
pub record Coding : Type 0 where
  -- the bits of a block
  pub k : ℕ
  -- N, the bits of an image
  pub size : ℕ
  -- how many parity bits each clock passes on, and which these are for a block
  pub counts : List ℕ
  pub parity : List Bool → List (List Bool)
  -- the tail of a block
  pub tail : List Bool → List Bool
  -- the scrambler's sequence
  pub key : List Bool

-- the bits X taken out again
unfoldable pub x_bits : List ℕ → List Bool → List Bool
x_bits [] row = []
x_bits (n ∷ counts) [] = []
x_bits (n ∷ counts) (x ∷ row) = x ∷ x_bits counts (drop n row)

-- a block before it is scrambled
abbrev pub coded : Coding → List Bool → List Bool
coded c a = weave a (c.parity a) (c.tail a)

unfoldable pub image : Coding → List Bool → List Bool
image c a = xor_rows c.key (coded c a)

-- the k bits of what came
unfoldable pub received : Coding → List Bool → List Bool
received c came = x_bits c.counts (xor_rows c.key came)

-- what a coding has to keep to: the counts are those of every block, every image has its N bits, and the scrambler covers them
pub record Sound (c : Coding) : Type 0 where
  pub short : c.k ≤ longest
  pub clocks : length c.counts ≡ c.k
  pub counted : (a : List Bool) → length a ≡ c.k → map length (c.parity a) ≡ c.counts
  pub sized : (a : List Bool) → length a ≡ c.k → length (coded c a) ≡ c.size
  pub covered : c.size ≤ length c.key
