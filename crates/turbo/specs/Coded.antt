-- What the two encoders put out for a block (M.2092-1, Annex 2, 1.2.4.1, 1.2.4.4): the clocks of the block, then the ending.
use Rattle.std.specs.Prelude.{Bool, true, false, List, [], ◌∷◌, ◌++◌, ℕ, suc, take, drop, replicate}
use Rattle.links.specs.declared.Row.{Row}
use Rattle.links.specs.Patterns.{pattern_of, tail_of, flags_at}
use Rattle.turbo.specs.Encoder.{Register, start, feedback, next, y0, y1}
use Rattle.turbo.specs.Interleaver.{interleaved}

-- X Y0 Y1 X' Y'0 Y'1 of a clock, the registers a and b, the inputs u and v
unfoldable pub six : Register → Register → Bool → Bool → List Bool
six a b u v = u ∷ y0 a u ∷ y1 a u ∷ v ∷ y0 b v ∷ y1 b v ∷ []

-- each element as often as its flag says
unfoldable pub passed : {A : Type 0} → List ℕ → List A → List A
passed [] xs = []
passed (flag ∷ flags) [] = []
passed (flag ∷ flags) (x ∷ xs) = replicate flag x ++ passed flags xs

-- the six of a clock of the ending: one encoder, the first or the second, is fed what its register feeds back, and the
-- other puts out nothing
unfoldable pub alone : Bool → Register → List Bool
alone false a = feedback a ∷ y0 a (feedback a) ∷ y1 a (feedback a) ∷ false ∷ false ∷ false ∷ []
alone true b = false ∷ false ∷ false ∷ feedback b ∷ y0 b (feedback b) ∷ y1 b (feedback b) ∷ []

-- the ending of one encoder, one clock to each six flags
unfoldable pub ending_of : Bool → List (List ℕ) → Register → List Bool
ending_of second [] r = []
ending_of second (flags ∷ tail) r = passed flags (alone second r) ++ ending_of second tail (next r (feedback r))

-- three clocks put out the first encoder only, the others the second
abbrev pub ending : List (List ℕ) → Register → Register → List Bool
ending tail a b = ending_of false (take 3 tail) a ++ ending_of true (drop 3 tail) b

-- from clock s on: u are the bits that are left, v the same interleaved
unfoldable pub coded_from : List (List ℕ) → List (List ℕ) → ℕ → Register → Register → List Bool → List Bool → List Bool
coded_from pattern tail s a b [] v = ending tail a b
coded_from pattern tail s a b (x ∷ u) [] = ending tail a b
coded_from pattern tail s a b (x ∷ u) (y ∷ v) =
    passed (flags_at pattern s) (six a b x y) ++ coded_from pattern tail (suc s) (next a x) (next b y) u v

-- the coded bits of a block
unfoldable pub coded : Row → List Bool → List Bool
coded row u = coded_from (pattern_of row.pattern) (tail_of row.tail) 0 start start u (interleaved row u)
