-- The interleaver (M.2092-1, Annex 2, 1.2.4.3): which bit of the block the second encoder takes at each clock. Positions count from 1.
use Rattle.std.specs.Prelude.{Bool, false, List, [], ◌∷◌, ℕ, zero, suc, ◌+◌, ◌-◌, ◌*◌, ◌/◌, ◌%◌, ◌≤◌, get_or}
use Rattle.links.specs.declared.Row.{Row}

-- π(s): the second encoder's s-th input is bit π(s)
unfoldable pub position : Row → ℕ → ℕ
position row s =
    let m = (s - 1) % 2 in
    let i = (s - 1) / (2 * row.k2) in
    let j = (s - 1) / 2 - i * row.k2 in
    let t = (19 * i + 1) % (row.k1 / 2) in
    let q = t % 8 + 1 in
    let c = (get_or row.primes (q - 1) 0 * j + 21 * m) % row.k2 in
    2 * (t + c * (row.k1 / 2) + 1) - m

-- s is one of 1 to k: the s-th input comes at clock s - 1, since clocks count from 0
abbrev pub InBlock : Row → ℕ → Type 0
InBlock row s = (1 ≤ s) × (s ≤ row.k)

-- n inputs of the second encoder from the s-th on
unfoldable pub interleaved_from : Row → List Bool → ℕ → ℕ → List Bool
interleaved_from row u s zero = []
interleaved_from row u s (suc n) = get_or u (position row s - 1) false ∷ interleaved_from row u (suc s) n

-- all its k inputs
abbrev pub interleaved : Row → List Bool → List Bool
interleaved row u = interleaved_from row u 1 row.k
