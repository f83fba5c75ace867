-- What a row of pairs starts with, in document 01's letters: the inputs of row i are those with s - 1 = 2 (i k2 + j) + m.
use Rattle.std.specs.Prelude.{ℕ, ◌+◌, ◌*◌, ◌/◌, ◌%◌, get_or}
use Rattle.links.specs.declared.Row.{Row}
use Rattle.interleaver.specs.declared.Start.{Start}

-- how far the positions of two inputs lie apart whose c are n apart modulo k2
abbrev pub distance : Row → ℕ → ℕ
distance row n = n % row.k2 * row.k1

-- how far the pairs of the row with this t lie apart, each from the one before: its prime is that of q = t mod 8 + 1
abbrev pub step_of : Row → ℕ → ℕ
step_of row t = distance row (get_or row.primes (t % 8) 0)

-- row i: the place of its first input, counted from 0, its t and its step
unfoldable pub start_of : Row → ℕ → Start
start_of row i =
    let t = (19 * i + 1) % (row.k1 / 2) in
    record { i = i; place = 2 * (i * row.k2); t = t; step = step_of row t }
