-- A step goes one of five ways, and each of its answers is given exactly where the documents say.
-- Assumes nothing.
use mathlib.Core.Path.{◌≡◌, refl, sym, ap, ◌∙◌}
use mathlib.Core.Logic.{◌↔◌, by_cases}
use mathlib.Core.Bool.{Bool, true, false}
use mathlib.Core.List.{List}
use Prim.Native.Nat.{ℕ, zero, suc, ◌+◌, ◌-◌, ◌<◌, ◌≤◌}
use native.Mathlib.Decide.{ℕ_discrete}
use native.Mathlib.Omega.{arith}
use lib.Dec.{ltb}
use lib.ListN.{length, drop, length-drop}
use borrow.Author.Tests.{ltb-true, ltb-false}
use Rattle.answers.specs.Numbers.{broken_fill, message_past_end}
use Rattle.messages.specs.declared.Step.{Step}
use Rattle.messages.specs.Fill.{only_zeros}
use Rattle.messages.specs.Places.{byte_at, PassedOver, Behind, ZerosFrom, NoneLeft, Spoilt, Begins, total_at, Tells, few_left_lie, small_length_lie, past_the_end, LieAt, Whole}
use Rattle.messages.specs.Step.{refused, finished, message, lie, is_lie, message_at, step_from, step_message}
use Rattle.messages.specs.Working.Stepping.{Stepping, past, ends, spoils, lies, finds}
use Rattle.messages.proofs.Places.{passed-ends, left-declares, only_from, from_only, spoilt_at, spoilt_only}
use Rattle.messages.proofs.Ways.{same-status, same_start, same_length, same_missing, lie_apart, zeros_only, zeros_broken, message-few, message_small, message-long, message-whole, step_end, step-passes, step-zeros, step-begins, step_past, step-within}

not_below : (a b : ℕ) → ltb a b ≡ false → a < b → ⊥
not_below a b e h = omega (arith, ltb-false a b e)

module _ (datagram : List ℕ) where
  -- ---- what is passed over does not change the answer
  over : (n position place : ℕ) → position + n ≡ place → PassedOver datagram position place → step_from datagram position ≡ step_from datagram place
  over zero position place h p = ap (step_from datagram) (omega arith)
  over (suc n) position place h p =
      step-passes datagram position (omega (arith, p.inside)) (p.each position (omega arith) (omega arith))
      ∙ over n (position + 1) place (omega arith) (record { onward = omega arith; inside = p.inside; each = λ m l u. p.each m (omega arith) u })

  from_place : (position place : ℕ) → PassedOver datagram position place → step_message datagram position ≡ step_from datagram place
  from_place position place p =
      step-within datagram position (omega (arith, p.onward, p.inside)) ∙ over (place - position) position place (omega (arith, p.onward)) p

  -- ---- a step from a place, by what stands there
  zeros-answer : (place : ℕ) → ZerosFrom datagram place → step_from datagram place ≡ finished
  zeros-answer place z = decided (ltb place (length datagram)) refl
    where
      decided : (inside : Bool) → ltb place (length datagram) ≡ inside → step_from datagram place ≡ finished
      decided true i =
          let h = ltb-true _ _ i in
          step-zeros datagram place h (z place (omega arith) h) ∙ zeros_only (drop place datagram) (from_only datagram place z)
      decided false i = step_end datagram place (ltb-false _ _ i)

  spoilt_answer : (place : ℕ) → Spoilt datagram place → step_from datagram place ≡ refused broken_fill
  spoilt_answer place s =
      step-zeros datagram place (omega (arith, s.behind, s.inside)) s.zero ∙ zeros_broken (drop place datagram) (spoilt_only datagram place s)

  begins-answer : (place : ℕ) → Begins datagram place → step_from datagram place ≡ message_at place (drop place datagram)
  begins-answer place b = step-begins datagram place b.inside b.no_fill b.no_zero

  lie-answer : (place number missing : ℕ) → LieAt datagram place number missing → step_from datagram place ≡ lie number place missing
  lie-answer place number missing (b, told) = begins-answer place b ∙ refuses told
    where
      left : List ℕ
      left = drop place datagram

      refuses : {n m : ℕ} → Tells datagram place n m → message_at place left ≡ lie n place m
      refuses (few_left_lie h) = message-few place left (omega (arith, length-drop place datagram))
      refuses (small_length_lie e h) = message_small place left (omega (arith, e, length-drop place datagram)) (rw (left-declares datagram place) h)
      refuses (past_the_end e s h) =
          let long = length-drop place datagram in
          let same = left-declares datagram place in
          message-long place left (omega (arith, e, long)) (omega (arith, s, same)) (omega (arith, h, b.inside, long, same))
          ∙ ap (lie message_past_end place) (omega (arith, h, b.inside, long, same))

  whole-answer : (place total : ℕ) → Whole datagram place total → step_from datagram place ≡ message place total
  whole-answer place total w =
      let same = left-declares datagram place ∙ sym w.declares in
      begins-answer place w.begins
      ∙ message-whole place (drop place datagram) (rw same w.least) (rw (same, length-drop place datagram) (omega (arith, w.ends)))
      ∙ ap (message place) same

  -- what is told is one of the three lies
  pub tells_lie : {place number missing : ℕ} → Tells datagram place number missing → is_lie number ≡ true
  tells_lie (few_left_lie h) = refl
  tells_lie (small_length_lie e h) = refl
  tells_lie (past_the_end e s h) = refl

module _ (datagram : List ℕ) (position : ℕ) where
  -- ---- what each way answers
  ends-answers : NoneLeft datagram position → step_message datagram position ≡ finished
  ends-answers (place, p, zeros) = from_place datagram position place p ∙ zeros-answer datagram place zeros

  spoils-answers : Behind datagram position (Spoilt datagram) → step_message datagram position ≡ refused broken_fill
  spoils-answers (place, p, s) = from_place datagram position place p ∙ spoilt_answer datagram place s

  lies-answers : (start number missing : ℕ) → PassedOver datagram position start → LieAt datagram start number missing → step_message datagram position ≡ lie number start missing
  lies-answers start number missing p told = from_place datagram position start p ∙ lie-answer datagram start number missing told

  finds-answers : (start total : ℕ) → PassedOver datagram position start → Whole datagram start total → step_message datagram position ≡ message start total
  finds-answers start total p w = from_place datagram position start p ∙ whole-answer datagram start total w

  -- ---- one of the five ways it goes
  begun : (place : ℕ) → PassedOver datagram position place → Begins datagram place → Stepping datagram position
  begun place p b = decided (ltb (length datagram) (place + 3)) (ltb total 7) (ltb (length datagram) (place + total)) refl refl refl
    where
      total : ℕ
      total = total_at datagram place

      told : {number missing : ℕ} → Tells datagram place number missing → Stepping datagram position
      told {number} {missing} t = lies place number missing p (b, t) (lies-answers place number missing p (b, t))

      decided : (few small long : Bool) → ltb (length datagram) (place + 3) ≡ few → ltb total 7 ≡ small → ltb (length datagram) (place + total) ≡ long → Stepping datagram position
      decided true small long f s l = told (few_left_lie (ltb-true _ _ f))
      decided false true long f s l = told (small_length_lie (not_below _ _ f) (ltb-true _ _ s))
      decided false false true f s l = told (past_the_end (not_below _ _ f) (not_below _ _ s) (ltb-true _ _ l))
      decided false false false f s l =
          let whole : Whole datagram place total = record { begins = b; declares = refl; least = ltb-false _ _ s; ends = ltb-false _ _ l } in
          finds place total p whole (finds-answers place total p whole)

  left : (place : ℕ) → PassedOver datagram position place → ZerosFrom datagram place → Stepping datagram position
  left place p z = let behind : NoneLeft datagram position = (place, p, z) in ends behind (ends-answers behind)

  filled : (place : ℕ) → PassedOver datagram position place → byte_at datagram place ≡ 0 → Stepping datagram position
  filled place p z = decided (only_zeros (drop place datagram)) refl
    where
      decided : (only : Bool) → only_zeros (drop place datagram) ≡ only → Stepping datagram position
      decided true e = left place p (only_from datagram place e)
      decided false e = let behind : Behind datagram position (Spoilt datagram) = (place, p, spoilt_at datagram place z e) in spoils behind (spoils-answers behind)

  within : position ≤ length datagram → Stepping datagram position
  within h = let ended = passed-ends datagram position h in decided ended.0 ended.1 ended.2 (ltb ended.0 (length datagram)) refl
    where
      decided : (place : ℕ) → PassedOver datagram position place → (place < length datagram → byte_at datagram place ≡ 81 → ⊥)
          → (inside : Bool) → ltb place (length datagram) ≡ inside → Stepping datagram position
      decided place p other true i =
          by_cases (ℕ_discrete (byte_at datagram place) 0) (filled place p)
          (λ no_zero. begun place p (record { inside = ltb-true _ _ i; no_fill = other (ltb-true _ _ i); no_zero = no_zero }))
      decided place p other false i = left place p (λ n l u. absurd (omega (arith, ltb-false place (length datagram) i)))

  pub step-goes : Stepping datagram position
  step-goes = decided (ltb (length datagram) position) refl
    where
      decided : (beyond : Bool) → ltb (length datagram) position ≡ beyond → Stepping datagram position
      decided true b = past (ltb-true _ _ b) (step_past datagram position (ltb-true _ _ b))
      decided false b = within (ltb-false _ _ b)

  -- ---- two ways never answer the same: the status differs, also in being a lie's, or the length
  no-status : {a b : Step} {A : Type 0} → step_message datagram position ≡ a → step_message datagram position ≡ b → (a.status ≡ b.status → ⊥) → A
  no-status p q differ = absurd (differ (same-status (sym p ∙ q)))

  no_length : {a b : Step} {A : Type 0} → step_message datagram position ≡ a → step_message datagram position ≡ b → (a.length ≡ b.length → ⊥) → A
  no_length p q differ = absurd (differ (same_length (sym p ∙ q)))

  no_lie : {a b : Step} {A : Type 0} → step_message datagram position ≡ a → is_lie a.status ≡ false → step_message datagram position ≡ b → is_lie b.status ≡ true → A
  no_lie p none q one = lie_apart (sym q ∙ p) one none

  -- ---- each answer exactly then
  pub lie_exact : (number start missing : ℕ) → is_lie number ≡ true
      → (step_message datagram position ≡ lie number start missing) ↔ (PassedOver datagram position start × LieAt datagram start number missing)
  lie_exact number start missing one = (λ e. goes step-goes e, λ h. lies-answers start number missing h.0 h.1)
    where
      goes : Stepping datagram position → step_message datagram position ≡ lie number start missing → PassedOver datagram position start × LieAt datagram start number missing
      goes (past h q) e = no_lie q refl e one
      goes (ends h q) e = no_lie q refl e one
      goes (spoils h q) e = no_lie q refl e one
      goes (lies place n m p l q) e =
          let same = sym e ∙ q in
          rw (same-status same, same_start same, same_missing same) (p, l)
      goes (finds place total p w q) e = no_lie q refl e one

  pub spoilt_exact : (step_message datagram position ≡ refused broken_fill) ↔ Behind datagram position (Spoilt datagram)
  spoilt_exact = (λ e. goes step-goes e, spoils-answers)
    where
      goes : Stepping datagram position → step_message datagram position ≡ refused broken_fill → Behind datagram position (Spoilt datagram)
      goes (past h q) e = no-status e q (omega arith)
      goes (ends h q) e = no-status e q (omega arith)
      goes (spoils h q) e = h
      goes (lies start number missing p l q) e = no_lie e refl q (tells_lie datagram l.1)
      goes (finds start total p w q) e = no-status e q (omega arith)

  pub finished_exact : (step_message datagram position ≡ finished) ↔ NoneLeft datagram position
  finished_exact = (λ e. goes step-goes e, ends-answers)
    where
      goes : Stepping datagram position → step_message datagram position ≡ finished → NoneLeft datagram position
      goes (past h q) e = no-status e q (omega arith)
      goes (ends h q) e = h
      goes (spoils h q) e = no-status e q (omega arith)
      goes (lies start number missing p l q) e = no_lie e refl q (tells_lie datagram l.1)
      goes (finds start total p w q) e = no_length e q (omega (arith, w.least))

  -- "finished" has length 0, so a message is an answer with a length
  pub found_exact : (start total : ℕ) → ((step_message datagram position ≡ message start total) × (0 < total)) ↔ (PassedOver datagram position start × Whole datagram start total)
  found_exact start total = (λ h. goes step-goes h.0 h.1, λ h. (finds-answers start total h.0 h.1, omega (arith, h.1.least)))
    where
      goes : Stepping datagram position → step_message datagram position ≡ message start total → 0 < total → PassedOver datagram position start × Whole datagram start total
      goes (past h q) e z = no-status e q (omega arith)
      goes (ends h q) e z = no_length e q (omega arith)
      goes (spoils h q) e z = no-status e q (omega arith)
      goes (lies place number missing p l q) e z = no_lie e refl q (tells_lie datagram l.1)
      goes (finds place n p w q) e z =
          let same = sym e ∙ q in
          rw (same_start same, same_length same) (p, w)

  -- whatever is answered lies inside the datagram
  pub answer-inside : (step_message datagram position).start + (step_message datagram position).length ≤ length datagram
  answer-inside = goes step-goes
    where
      goes : Stepping datagram position → (step_message datagram position).start + (step_message datagram position).length ≤ length datagram
      goes (past h q) = rw q (omega arith)
      goes (ends h q) = rw q (omega arith)
      goes (spoils h q) = rw q (omega arith)
      goes (lies place number missing p l q) = rw q (omega (arith, l.0.inside))
      goes (finds start total p w q) = rw q w.ends

  -- the place that comes back with a lie is inside it
  pub lie-inside : is_lie (step_message datagram position).status ≡ true → (step_message datagram position).start < length datagram
  lie-inside one = goes step-goes
    where
      goes : Stepping datagram position → (step_message datagram position).start < length datagram
      goes (past h q) = no_lie q refl refl one
      goes (ends h q) = no_lie q refl refl one
      goes (spoils h q) = no_lie q refl refl one
      goes (lies start number missing p l q) = rw q l.0.inside
      goes (finds start total p w q) = no_lie q refl refl one

  -- bytes are missing only past the end
  pub none_missing : ((step_message datagram position).status ≡ message_past_end → ⊥) → (step_message datagram position).missing ≡ 0
  none_missing other = goes step-goes
    where
      told : {place number missing : ℕ} → Tells datagram place number missing → step_message datagram position ≡ lie number place missing → (step_message datagram position).missing ≡ 0
      told (few_left_lie h) q = same_missing q
      told (small_length_lie e h) q = same_missing q
      told (past_the_end e s h) q = absurd (other (same-status q))

      goes : Stepping datagram position → (step_message datagram position).missing ≡ 0
      goes (past h q) = same_missing q
      goes (ends h q) = same_missing q
      goes (spoils h q) = same_missing q
      goes (lies start number missing p l q) = told l.1 q
      goes (finds start total p w q) = same_missing q
