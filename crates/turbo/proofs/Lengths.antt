-- The coded bits of a block on a good row are N.
-- Assumes nothing.
use mathlib.Core.Path.{◌≡◌, refl, sym, ap, ap₂, ◌∙◌}
use mathlib.Core.Bool.{Bool, true, false}
use mathlib.Core.List.{List, [], ◌∷◌}
use Prim.Native.Nat.{ℕ, suc, ◌+◌, ◌<◌}
use native.Mathlib.Omega.{arith}
use lib.Dec.{T}
use lib.ListN.{length, get_or, take, drop, length-append, length-take, length-drop}
use lib.Seq.{get_or-take, get_or-drop}
use Rattle.links.specs.declared.Row.{Row}
use Rattle.links.specs.Patterns.{pattern_of, tail_of, flags_at}
use Rattle.links.specs.Sizes.{passed_on, tail_bits, image_length}
use Rattle.links.specs.Working.Good.{good_row}
use Rattle.links.proofs.GoodFlags.{Pattern, Tail, clock-at, pattern, tail}
use Rattle.links.proofs.PassedOn.{tail_bits_split}
use Rattle.turbo.specs.Encoder.{Register, start, feedback, next}
use Rattle.turbo.specs.Interleaver.{interleaved}
use Rattle.turbo.specs.Coded.{six, passed, alone, ending_of, ending, coded_from, coded}
use Rattle.turbo.proofs.Interleaved.{length-interleaved}
use Rattle.turbo.proofs.Passing.{length-passed, passed_length}

-- every clock has six flags
abbrev SixEach : List (List ℕ) → Type 0
SixEach clocks = (i : ℕ) → i < length clocks → length (get_or clocks i []) ≡ 6

length-alone : (second : Bool) (r : Register) → length (alone second r) ≡ 6
unfolding alone
length-alone true r = refl
length-alone false r = refl

length-ending_of : (second : Bool) (clocks : List (List ℕ)) → SixEach clocks → (r : Register) → length (ending_of second clocks r) ≡ tail_bits clocks
unfolding ending_of tail_bits
length-ending_of second [] each r = refl
length-ending_of second (flags ∷ clocks) each r =
    length-append (passed flags (alone second r)) (ending_of second clocks (next r (feedback r)))
    ∙ ap₂ ◌+◌ (length-passed flags (alone second r) (omega (arith, each 0 (omega arith), length-alone second r)))
    (length-ending_of second clocks (λ i h. each (suc i) (omega arith)) (next r (feedback r)))

-- whatever the flags are, an ending is as long from one register as from another
pub even_endings : (second : Bool) (clocks : List (List ℕ)) (r q : Register) → length (ending_of second clocks r) ≡ length (ending_of second clocks q)
unfolding ending_of
even_endings second [] r q = refl
even_endings second (flags ∷ clocks) r q =
    length-append (passed flags (alone second r)) (ending_of second clocks (next r (feedback r)))
    ∙ ap₂ ◌+◌ (passed_length flags (alone second r) (alone second q) (length-alone second r ∙ sym (length-alone second q)))
    (even_endings second clocks (next r (feedback r)) (next q (feedback q)))
    ∙ sym (length-append (passed flags (alone second q)) (ending_of second clocks (next q (feedback q))))

pub length-ending : (clocks : List (List ℕ)) → Tail clocks → (a b : Register) → length (ending clocks a b) ≡ tail_bits clocks
length-ending clocks good a b =
    length-append (ending_of false (take 3 clocks) a) (ending_of true (drop 3 clocks) b)
    ∙ ap₂ ◌+◌ (length-ending_of false (take 3 clocks) first a) (length-ending_of true (drop 3 clocks) second b)
    ∙ sym (tail_bits_split 3 clocks)
  where
    first : SixEach (take 3 clocks)
    first i h =
        let below : i < 3 = omega (arith, length-take 3 clocks) in
        ap length (get_or-take 3 clocks i [] below) ∙ (good.first i below).six

    second : SixEach (drop 3 clocks)
    second i h = ap length (get_or-drop 3 clocks i []) ∙ (good.second i (omega (arith, length-drop 3 clocks, good.six))).six

pub length-coded_from : (pattern tail : List (List ℕ)) → Pattern pattern → Tail tail → (s : ℕ) (a b : Register) (u v : List Bool) → length u ≡ length v
    → length (coded_from pattern tail s a b u v) ≡ passed_on pattern s (length u) + tail_bits tail
unfolding coded_from passed_on six
length-coded_from pattern tail p t s a b [] v l = length-ending tail t a b ∙ omega arith
length-coded_from pattern tail p t s a b (x ∷ u) [] l = absurd (omega arith)
length-coded_from pattern tail p t s a b (x ∷ u) (y ∷ v) l =
    let rest = coded_from pattern tail (suc s) (next a x) (next b y) u v in
    omega (
      arith,
      length-append (passed (flags_at pattern s) (six a b x y)) rest,
      length-passed (flags_at pattern s) (six a b x y) (omega (arith, (clock-at pattern p s).six)),
      length-coded_from pattern tail p t (suc s) (next a x) (next b y) u v (omega arith),
    )

pub length-coded : (row : Row) → T (good_row row) → (u : List Bool) → length u ≡ row.k → length (coded row u) ≡ image_length row
unfolding coded image_length
length-coded row good u l =
    let clocks = pattern_of row.pattern in
    length-coded_from clocks (tail_of row.tail) (pattern row good) (tail row good) 0 start start u (interleaved row u) (l ∙ sym (length-interleaved row u))
    ∙ ap (λ (n : ℕ). passed_on clocks 0 n + tail_bits (tail_of row.tail)) l
