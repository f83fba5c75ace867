-- What a state has heard: the bytes that are kept as far as they count, or a burst that is too long.
-- Assumes nothing.
use mathlib.Core.Path.{◌≡◌, refl, sym, ap, ◌∙◌}
use mathlib.Core.Bool.{Bool, true, ◌&&◌}
use mathlib.Core.List.{List, [], ◌∷◌, ◌++◌}
use Prim.Native.Nat.{ℕ, ◌≤◌, ◌<◌}
use native.Mathlib.Omega.{arith}
use lib.Dec.{ltb, leb}
use lib.ListN.{length, take, length-append, length-drop}
use lib.Seq.{take_all, take-append-le, take-take, length-take-le}
use borrow.Author.Tests.{ltb-true, leb-true}
use Rattle.lists.proofs.Tests.{both_true}
use Rattle.links.specs.Patterns.{patterns, tails, clocks_in, flags_at, total}
use Rattle.links.specs.Rows.{rows, place_in, row_of}
use Rattle.links.specs.Sizes.{passed_on, tail_bits, image_length}
use Rattle.slots.specs.Burst.{head_length, head_part, is_slot_link, burst_length}
use Rattle.slots.specs.Calls.{read_slot}
use Rattle.slots.proofs.Links.{each}
use Rattle.parts.specs.State.{longest, state, heard}
use Rattle.parts.proofs.Lengths.{Off, off_alike}

pub short : (count : ℕ) (bits : List ℕ) → count ≤ length bits → heard (state count bits) ≡ take count bits
unfolding heard
short count bits h = rw take-append-le

pub too_long : (count : ℕ) (bits : List ℕ) → length bits ≡ longest → longest < count → heard (state count bits) ≡ bits ++ 0 ∷ []
unfolding heard
too_long count bits e h = take_all count (bits ++ 0 ∷ []) (simp length-append (omega arith))

-- ---- the image of a slot link has bits, and its burst is no longer than the longest
abbrev sized : ℕ → Bool
sized link = ltb 0 (image_length (row_of link)) && leb (burst_length link) longest

all-sized : (sized 5 ≡ true) × (sized 6 ≡ true) × (sized 7 ≡ true)
unfolding rows place_in row_of patterns tails clocks_in flags_at total passed_on tail_bits image_length
all-sized = (refl, refl, refl)

pub longest_7 : burst_length 7 ≡ longest
unfolding rows place_in row_of patterns tails clocks_in flags_at total passed_on tail_bits image_length
longest_7 = refl

pub slot_sizes : (link : ℕ) → is_slot_link link ≡ true → (0 < image_length (row_of link)) × (burst_length link ≤ longest)
slot_sizes link h =
    let both = both_true _ _ (each sized all-sized.0 all-sized.1 all-sized.2 link h) in
    (ltb-true 0 _ both.0, leb-true (burst_length link) longest both.1)

-- so a head alone is no burst, nor is what is longer than the longest
head_off : (bits : List ℕ) → head_length ≤ length bits → Off (head_part bits)
head_off bits h =
    let size = length-take-le head_length bits h in
    record { long = omega (arith, size); none = λ link slot e. omega (arith, e, size, length-drop head_length (head_part bits), (slot_sizes link slot).0) }

long_off : (burst : List ℕ) → longest < length burst → Off burst
long_off burst h = record { long = omega arith; none = λ link slot e. omega (arith, e, length-drop head_length burst, (slot_sizes link slot).1) }

-- what is too long reads as its head alone
pub head-alone : (burst : List ℕ) → longest < length burst → (room : ℕ) → read_slot burst room ≡ read_slot (head_part burst) room
head-alone burst h room =
    off_alike burst (head_part burst) (sym (take-take head_length head_length burst (omega arith))) (long_off burst h) (head_off burst (omega arith)) room

pub heard-long : (count : ℕ) (bits : List ℕ) → length bits ≡ longest → longest < count → (room : ℕ)
    → read_slot (heard (state count bits)) room ≡ read_slot (head_part bits) room
heard-long count bits e h room =
    let whole = bits ++ 0 ∷ [] in
    ap (λ (burst : List ℕ). read_slot burst room) (too_long count bits e h)
    ∙ head-alone whole (simp length-append (omega arith)) room
    ∙ ap (λ (burst : List ℕ). read_slot burst room) (take-append-le head_length bits (0 ∷ []) (omega (arith, e)))

pub ruleset hearing = (short, heard-long)
