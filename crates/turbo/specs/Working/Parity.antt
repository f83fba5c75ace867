-- The coded bits of a block in their parts (M.2092-1, Annex 2, 1.2.4.4): clock by clock X and the parity bits that pass behind it, then the ending.
use Rattle.std.specs.Prelude.{Bool, List, [], ◌∷◌, ℕ, zero, suc, drop}
use Rattle.links.specs.declared.Row.{Row}
use Rattle.links.specs.Patterns.{pattern_of, tail_of, flags_at, total}
use Rattle.turbo.specs.Encoder.{Register, start, next}
use Rattle.turbo.specs.Interleaver.{interleaved}
use Rattle.turbo.specs.Coded.{six, passed, ending}

-- what each clock from s on passes on behind X: u are the bits that are left, v the same interleaved
unfoldable pub parity_from : List (List ℕ) → ℕ → Register → Register → List Bool → List Bool → List (List Bool)
parity_from pattern s a b [] v = []
parity_from pattern s a b (x ∷ u) [] = []
parity_from pattern s a b (x ∷ u) (y ∷ v) =
    passed (drop 1 (flags_at pattern s)) (drop 1 (six a b x y)) ∷ parity_from pattern (suc s) (next a x) (next b y) u v

-- how many bits that is, on n clocks from s on
unfoldable pub counts_from : List (List ℕ) → ℕ → ℕ → List ℕ
counts_from pattern s zero = []
counts_from pattern s (suc n) = total (drop 1 (flags_at pattern s)) ∷ counts_from pattern (suc s) n

-- the register after some inputs
unfoldable pub register_after : Register → List Bool → Register
register_after r [] = r
register_after r (x ∷ u) = register_after (next r x) u

-- of a block
abbrev pub parity_of : Row → List Bool → List (List Bool)
parity_of row u = parity_from (pattern_of row.pattern) 0 start start u (interleaved row u)

abbrev pub counts_of : Row → List ℕ
counts_of row = counts_from (pattern_of row.pattern) 0 row.k

abbrev pub tail_bits_of : Row → List Bool → List Bool
tail_bits_of row u = ending (tail_of row.tail) (register_after start u) (register_after start (interleaved row u))
