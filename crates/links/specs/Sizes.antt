-- The numbers of a link (document 01, "From datagram to block"): the bytes it holds, and N, the bits of its image.
use Rattle.std.specs.Prelude.{List, [], ◌∷◌, ℕ, zero, suc, ◌+◌, ◌-◌, ◌/◌}
use Rattle.links.specs.declared.Row.{Row}
use Rattle.links.specs.Patterns.{pattern_of, tail_of, flags_at, total}

-- the bits before the check
abbrev pub open_bits : Row → ℕ
open_bits row = row.k - 32

-- the whole bytes that these have room for
abbrev pub bytes_held : Row → ℕ
bytes_held row = open_bits row / 8

-- how many bits pass on n clocks from clock s on
unfoldable pub passed_on : List (List ℕ) → ℕ → ℕ → ℕ
passed_on clocks s zero = 0
passed_on clocks s (suc n) = total (flags_at clocks s) + passed_on clocks (suc s) n

-- how many bits a tail gives
unfoldable pub tail_bits : List (List ℕ) → ℕ
tail_bits [] = 0
tail_bits (clock ∷ tail) = total clock + tail_bits tail

-- N
unfoldable pub image_length : Row → ℕ
image_length row = passed_on (pattern_of row.pattern) 0 row.k + tail_bits (tail_of row.tail)
