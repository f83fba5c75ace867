-- A state that takes a burst part by part holds the burst, however it was cut; asked, it answers what reading the whole would.
-- Assumes nothing.
use mathlib.Core.Path.{◌≡◌, refl, sym, ap, ◌∙◌}
use mathlib.Core.Bool.{Bool, true, false}
use mathlib.Core.List.{List, [], ◌∷◌, ◌++◌, append-nil, append_assoc}
use Prim.Native.Nat.{ℕ, ◌+◌, ◌-◌, ◌≤◌, ◌<◌, min}
use native.Mathlib.Omega.{arith}
use lib.Dec.{ltb}
use borrow.Author.Tests.{ltb-true, ltb-false}
use lib.ListN.{length, take, drop, length-append, length-replicate, drop_of_length-le}
use lib.Seq.{take_all, take_at, take-append-le, take-append-add, length-take-le, take-take}
use Rattle.lists.specs.Over.{over}
use Rattle.lists.specs.Working.Cleared.{cleared}
use Rattle.lists.proofs.Over.{over-length}
use Rattle.slots.specs.Burst.{head_length, head_part}
use Rattle.slots.specs.Calls.{read_slot}
use Rattle.parts.specs.State.{longest, stop, State, state, blank, fresh, taken, heard}
use Rattle.parts.specs.Taking.{joined, TookAll}
use Rattle.parts.proofs.Growing.{full, cut, whole}
use Rattle.parts.proofs.Hearing.{short, head-alone, heard-long}

-- what came, as a state holds it
pub record Holds (came : List ℕ) (now : State) : Type 0 where
  pub number : now.count ≡ min (length came) stop
  pub front : take longest came ≡ take now.count now.bits
  pub long : length now.bits ≡ longest

-- what is cleared holds no byte of a burst
pub cleared_blank : cleared 0 longest ≡ blank
unfolding cleared blank
cleared_blank = refl

pub fresh_holds : Holds [] fresh
unfolding blank
fresh_holds = record { number = omega arith; front = refl; long = length-replicate {A = ℕ} longest 0 }

module _ (came part : List ℕ) (count : ℕ) (bits : List ℕ) (h : Holds came (state count bits)) where
  abbrev Takes : Type 0
  Takes = Holds (came ++ part) (taken (state count bits) part)

  -- it is full already
  on-full : longest < count → Takes
  on-full l =
      let n : longest ≤ length came = omega (arith, h.number) in
      rw (← full count bits part l) (record {
        number = omega (arith, h.number, length-append came part);
        front = take-append-le longest came part n ∙ h.front ∙ take_all count bits (omega (arith, h.long)) ∙ sym (take_all stop bits (omega (arith, h.long)));
        long = h.long;
      })

  -- what is kept is all that came
  all : count ≤ longest → (length came ≡ count) × (take count bits ≡ came)
  all l = let e : length came ≡ count = omega (arith, h.number) in (e, sym h.front ∙ take_all longest came (omega arith))

  on-whole : count ≤ longest → length part ≤ longest - count → Takes
  unfolding over
  on-whole l m =
      let a = all l in
      let e : length (came ++ part) ≡ count + length part = length-append came part ∙ ap (λ (n : ℕ). n + length part) a.0 in
      rw (← whole count bits part l m) (record {
        number = omega (arith, e);
        front = take_all longest (came ++ part) (omega (arith, e)) ∙ sym (rw a.1 (take_at (came ++ part) (drop (count + length part) bits) (count + length part) e));
        long = over-length count part bits (omega (arith, h.long)) ∙ h.long;
      })

  on-cut : count ≤ longest → longest - count < length part → Takes
  unfolding over
  on-cut l m =
      let p = take (longest - count) part in
      let a = all l in
      let n : length p ≡ longest - count = length-take-le (longest - count) part (omega arith) in
      let none : drop (count + length p) bits ≡ [] = drop_of_length-le bits {i = count + length p} (omega (arith, h.long)) in
      let size : length (came ++ p) ≡ longest = omega (arith, length-append came p, a.0) in
      let end : over count p bits ≡ came ++ p = rw (a.1, none, append-nil) in
      let s : longest ≡ length came + (longest - count) = omega (arith, a.0) in
      rw (← cut count bits part l m) (record {
        number = omega (arith, length-append came part, a.0);
        front = ap (λ (k : ℕ). take k (came ++ part)) s ∙ take-append-add came part (longest - count) ∙ sym (rw end (take_all stop (came ++ p) (omega (arith, size))));
        long = ap length end ∙ size;
      })

  -- taking a part holds what came with the part behind it
  takes : Takes
  takes = by_count (ltb longest count) refl
    where
      by_part : count ≤ longest → (t : Bool) → ltb (longest - count) (length part) ≡ t → Takes
      by_part l true e = on-cut l (ltb-true _ _ e)
      by_part l false e = on-whole l (omega (arith, ltb-false (longest - count) (length part) e))

      by_count : (t : Bool) → ltb longest count ≡ t → Takes
      by_count true e = on-full (ltb-true longest count e)
      by_count false e = by_part (omega (arith, ltb-false longest count e)) (ltb (longest - count) (length part)) refl

-- and so do all parts, one after another
pub took_holds : (parts : List (List ℕ)) (came : List ℕ) (before after : State) → Holds came before → TookAll parts before after → Holds (came ++ joined parts) after
unfolding joined TookAll
took_holds [] came before after h e = rw (e, append-nil came) h
took_holds (part ∷ parts) came before after h took =
    rw (← append_assoc came part (joined parts))
    (took_holds parts (came ++ part) took.0 after (rw took.1 (takes came part before.count before.bits h)) took.2)

-- ---- what is held reads as what came
module _ (came : List ℕ) (now : State) (h : Holds came now) (room : ℕ) where
  reads_short : length came ≤ longest → read_slot (heard now) room ≡ read_slot came room
  reads_short l =
      let n : now.count ≡ length came = omega (arith, h.number) in
      ap (λ (burst : List ℕ). read_slot burst room)
      (short now.count now.bits (omega (arith, h.long, n)) ∙ sym h.front ∙ take_all longest came l)

  reads-long : longest < length came → read_slot (heard now) room ≡ read_slot came room
  reads-long l =
      let n : now.count ≡ stop = omega (arith, h.number) in
      let kept : take longest came ≡ now.bits = h.front ∙ take_all now.count now.bits (omega (arith, n, h.long)) in
      let head : head_part now.bits ≡ head_part came = ap head_part (sym kept) ∙ take-take head_length longest came (omega arith) in
      heard-long now.count now.bits h.long (omega (arith, n)) room
      ∙ ap (λ (burst : List ℕ). read_slot burst room) head
      ∙ sym (head-alone came l room)

  pub reads-as-whole : read_slot (heard now) room ≡ read_slot came room
  reads-as-whole = decided (ltb longest (length came)) refl
    where
      decided : (t : Bool) → ltb longest (length came) ≡ t → read_slot (heard now) room ≡ read_slot came room
      decided true e = reads-long (ltb-true longest (length came) e)
      decided false e = reads_short (omega (arith, ltb-false longest (length came) e))
