-- Reading a block: its bits X are taken out of what came, and these and each flip of them are tried in turn. How it is found need not be
-- judged: `block-exact`, `block-only-one` and `block-answered` of the claims say what is found.
use Rattle.std.specs.Prelude.{Bool, cond, ◌&&◌, List, [], ◌∷◌, ℕ, zero, suc, ◌+◌, leb, length, drop}
use Rattle.std.proofs.Math.Option.{Option, none, some}
use Rattle.bits.specs.Row.{differences, flip}
use Rattle.links.specs.declared.Row.{Row}
use Rattle.links.specs.Patterns.{pattern_of, flags_at, total}
use Rattle.scrambler.specs.Scrambler.{scrambled}
use Rattle.blocks.specs.Block.{image_of}
use Rattle.blocks.specs.Near.{valid}

-- the X of n clocks from clock s on: the first bit that each passes on (`x-once` of the claims); those behind it are passed over
unfoldable pub x_from : List (List ℕ) → ℕ → ℕ → List Bool → List Bool
x_from pattern s zero coded = []
x_from pattern s (suc n) [] = []
x_from pattern s (suc n) (x ∷ coded) = x ∷ x_from pattern (suc s) n (drop (total (drop 1 (flags_at pattern s))) coded)

-- the k bits of what came; scrambling it once more takes the scrambling off
unfoldable pub received : Row → List Bool → List Bool
received row came = x_from (pattern_of row.pattern) 0 row.k (scrambled came)

-- bits with one of them inverted, at the first of `left` places from i on where they then pass a test
unfoldable pub first_flip : (List Bool → Bool) → List Bool → ℕ → ℕ → Option (List Bool)
first_flip test bits i zero = none
first_flip test bits i (suc left) = cond (test (flip i bits)) (some (flip i bits)) (first_flip test bits (i + 1) left)

-- the bits themselves if they pass a test, else the first flip of them that does
unfoldable pub try_each : (List Bool → Bool) → List Bool → Option (List Bool)
try_each test bits = cond (test bits) (some bits) (first_flip test bits 0 (length bits))

-- a block may stand for what came: the test of `Near`
unfoldable pub stands_for : Row → List Bool → List Bool → Bool
stands_for row came u = valid row u && leb (differences (image_of row u) came) 1

-- the block that stands for what came, if any does
unfoldable pub read_by_trying : Row → List Bool → Option (List Bool)
read_by_trying row came = try_each (stands_for row came) (received row came)
