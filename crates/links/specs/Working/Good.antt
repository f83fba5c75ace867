-- What the coder relies on of a link's row, as one test: the facts on sizes, interleaver, pattern and tail that every offered link has.
use Rattle.std.specs.Prelude.{Bool, cond, List, [], ◌∷◌, ℕ, zero, suc, ◌*◌, ◌/◌, ◌%◌, eqb, ltb, leb, length, get_or, take, drop}
use Rattle.lists.specs.Every.{every}
use Rattle.lists.specs.Working.Together.{together}
use Rattle.links.specs.declared.Row.{Row}
use Rattle.links.specs.Patterns.{pattern_of, tail_of}
use Rattle.links.specs.Sizes.{image_length}

-- the longest block and the longest image
abbrev pub longest_block : ℕ
longest_block = 5616

abbrev pub longest_image : ℕ
longest_image = 12855

-- k is k1 times k2, k1 is even, neither is 0; the block has room for its check, and it and its image are no longer than the longest
unfoldable pub good_sizes : Row → Bool
good_sizes row =
    together
    (eqb (row.k1 * row.k2) row.k
    ∷ eqb (row.k1 % 2) 0
    ∷ ltb 0 row.k1
    ∷ ltb 0 row.k2
    ∷ leb 32 row.k
    ∷ leb row.k longest_block
    ∷ leb (image_length row) longest_image
    ∷ [])

-- a number below `limit` that makes 1 with a modulo n, found by trying each, or 0
unfoldable pub inverse_below : ℕ → ℕ → ℕ → ℕ
inverse_below zero a n = 0
inverse_below (suc limit) a n = cond (eqb (a * limit % n) (1 % n)) limit (inverse_below limit a n)

abbrev pub inverse : ℕ → ℕ → ℕ
inverse a n = inverse_below n a n

abbrev pub has_inverse : ℕ → ℕ → Bool
has_inverse n a = eqb (a * inverse a n % n) (1 % n)

-- 19 has an inverse modulo k1 / 2; so has each prime that is used, one of the first k1 / 2, modulo k2
unfoldable pub good_primes : Row → Bool
good_primes row =
    together
    (has_inverse (row.k1 / 2) 19
    ∷ eqb (length row.primes) 8
    ∷ every (has_inverse row.k2) (take (row.k1 / 2) row.primes)
    ∷ [])

abbrev pub at_most : ℕ → ℕ → Bool
at_most n flag = leb flag n

-- a clock of a pattern: X passes once, X' never, and no bit twice
unfoldable pub good_clock : List ℕ → Bool
good_clock flags = together (eqb (length flags) 6 ∷ eqb (get_or flags 0 0) 1 ∷ eqb (get_or flags 3 0) 0 ∷ every (at_most 1) flags ∷ [])

unfoldable pub good_pattern : List (List ℕ) → Bool
good_pattern clocks = together (ltb 0 (length clocks) ∷ leb (length clocks) 10 ∷ every good_clock clocks ∷ [])

-- a clock of a tail: of one encoder, whose three flags `of` takes, nothing passes, and of the other no bit more than twice
unfoldable pub silent : (List ℕ → List ℕ) → List ℕ → Bool
silent of flags = together (eqb (length flags) 6 ∷ every (at_most 2) flags ∷ every (at_most 0) (of flags) ∷ [])

abbrev pub of_first : List ℕ → List ℕ
of_first flags = take 3 flags

abbrev pub of_second : List ℕ → List ℕ
of_second flags = drop 3 flags

-- three clocks of the first encoder, three of the second
unfoldable pub good_tail : List (List ℕ) → Bool
good_tail clocks = together (eqb (length clocks) 6 ∷ every (silent of_second) (take 3 clocks) ∷ every (silent of_first) (drop 3 clocks) ∷ [])

unfoldable pub good_row : Row → Bool
good_row row = together (good_sizes row ∷ good_primes row ∷ good_pattern (pattern_of row.pattern) ∷ good_tail (tail_of row.tail) ∷ [])
