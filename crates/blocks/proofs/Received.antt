-- The k bits of what came are those that the link's coding takes out.
-- Assumes nothing.
use mathlib.Core.Path.{◌≡◌, refl, ap, ◌∙◌}
use mathlib.Core.Bool.{Bool}
use mathlib.Core.List.{List, [], ◌∷◌}
use Prim.Native.Nat.{ℕ, zero, suc}
use lib.ListN.{length, drop}
use Rattle.bits.specs.Xor.{xor_rows}
use Rattle.distance.specs.Working.Coding.{x_bits, received as taken}
use Rattle.links.specs.declared.Row.{Row}
use Rattle.links.specs.Patterns.{pattern_of, flags_at, total}
use Rattle.links.specs.Sizes.{image_length}
use Rattle.turbo.specs.Working.Parity.{counts_from, counts_of}
use Rattle.scrambler.specs.Scrambler.{loaded, sequence, scrambled}
use Rattle.blocks.specs.Reading.{x_from, received}
use Rattle.blocks.specs.Working.Coding.{coding_of}

x_from-is : (pattern : List (List ℕ)) (s n : ℕ) (coded : List Bool) → x_from pattern s n coded ≡ x_bits (counts_from pattern s n) coded
unfolding x_from x_bits counts_from
x_from-is pattern s zero coded = refl
x_from-is pattern s (suc n) [] = refl
x_from-is pattern s (suc n) (x ∷ coded) =
    ap (λ (l : List Bool). x ∷ l) (x_from-is pattern (suc s) n (drop (total (drop 1 (flags_at pattern s))) coded))

pub received_x : (row : Row) (came : List Bool) → received row came ≡ x_bits (counts_of row) (scrambled came)
unfolding received
received_x row came = x_from-is (pattern_of row.pattern) 0 row.k (scrambled came)

pub received_is : (row : Row) (came : List Bool) → length came ≡ image_length row → received row came ≡ taken (coding_of row) came
unfolding taken coding_of
received_is row came size = received_x row came ∙ ap (λ (n : ℕ). x_bits (counts_of row) (xor_rows (sequence n loaded) came)) size
