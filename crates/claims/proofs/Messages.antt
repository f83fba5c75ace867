-- What is shown of the steps through a datagram, from the laws of the crate `messages`.
-- Assumes nothing.
use mathlib.Core.Path.{◌≡◌, refl, sym, ap, ◌∙◌}
use mathlib.Core.Logic.{◌↔◌, ⊎_elim}
use mathlib.Core.Bool.{true, false}
use mathlib.Core.List.{List, ◌++◌}
use Prim.Native.Nat.{ℕ, ◌+◌, ◌-◌, ◌*◌, ◌≤◌}
use native.Mathlib.Omega.{arith}
use lib.ListN.{length, drop, take-append-drop, get_or-eq_default}
use Rattle.answers.specs.Numbers.{done, message_past_end}
use Rattle.links.specs.Rows.{rows, place_in, row_of}
use Rattle.links.specs.Sizes.{bytes_held}
use Rattle.messages.specs.declared.Step.{Step}
use Rattle.messages.specs.Places.{byte_at, PassedOver, Begins, total_at, FewLeft, Tells, past_the_end, LieAt}
use Rattle.messages.specs.Step as step
use Rattle.messages.specs.Working.Stepping.{Stepping, past, ends, spoils, lies, finds}
use Rattle.messages.specs.Tiling.{Tiles, Leads, bytes_of}
use Rattle.messages.specs.Walk.{Walks}
use Rattle.messages.proofs.Stepping.{step-goes, tells_lie, lie_exact, none_missing}
use Rattle.messages.proofs.Ways.{same-status, same_start, same_length, lie_apart}
use Rattle.messages.proofs.Walk.{One, none-or-one}
use Rattle.messages.proofs.Tiling.{walks_tile, walks_lie, tiles-walk, tiles-count, tiles-bytes}
use Rattle.claims.specs.Calls.{Stepped}

pub lie-refused : (datagram : List ℕ) → length datagram ≡ bytes_held (row_of 5) → (position start : ℕ) → PassedOver datagram position start → Begins datagram start
    → byte_at datagram (start + 1) * 256 + byte_at datagram (start + 2) ≡ 900 → step.step_message datagram position ≡ step.lie message_past_end start (start + 868)
unfolding rows place_in row_of
lie-refused datagram size position start passed begins lie =
    let here : FewLeft datagram start → ⊥ = λ few. omega (arith, lie, get_or-eq_default datagram 0 {n = start + 2} (omega (arith, few))) in
    let missing = start + total_at datagram start - length datagram in
    let told : Tells datagram start message_past_end missing = past_the_end here (λ small. omega (arith, lie, small)) (omega (arith, size, lie)) in
    (lie_exact datagram position message_past_end start missing refl).1 (passed, (begins, told)) ∙ ap (step.lie message_past_end start) (omega (arith, size, lie))

pub refused : (datagram : List ℕ) (position : ℕ) (answer : Step) → Stepped datagram position answer → (answer.status ≡ done → ⊥)
    → (step.is_lie answer.status ≡ false → answer.start ≡ 0) × (answer.length ≡ 0) × ((answer.status ≡ message_past_end → ⊥) → answer.missing ≡ 0)
refused datagram position answer e z = (
  λ clear. starts (step-goes datagram position) clear,
  ⊎_elim (λ l. same_length e ∙ l) found_none (none-or-one datagram position),
  λ other. rw e (none_missing datagram position (rw e at other)),
)
  where
    starts : Stepping datagram position → step.is_lie answer.status ≡ false → answer.start ≡ 0
    starts (past h f) clear = same_start (e ∙ f)
    starts (ends h f) clear = same_start (e ∙ f)
    starts (spoils h f) clear = same_start (e ∙ f)
    starts (lies start number missing p l f) clear = lie_apart (sym (e ∙ f)) (tells_lie datagram l.1) clear
    starts (finds start total p w f) clear = absurd (z (same-status (e ∙ f)))

    found_none : One datagram position → answer.length ≡ 0
    found_none m = absurd (z (same-status (e ∙ m.answers)))

pub walk-lie : (datagram : List ℕ) (found : List Step) (number start missing : ℕ) → step.is_lie number ≡ true
    → Walks datagram 0 found (step.lie number start missing) ↔ (Leads datagram 0 found start × LieAt datagram start number missing)
walk-lie datagram found number start missing one = (walks_lie datagram one (omega arith), λ h. ends h.0 h.1)
  where
    ends : Leads datagram 0 found start → LieAt datagram start number missing → Walks datagram 0 found (step.lie number start missing)
    ends (end, tiles, passed) told = tiles-walk datagram tiles ((lie_exact datagram end number start missing one).1 (passed, told)) refl

pub walk-bytes : (datagram : List ℕ) (found : List Step) (end : ℕ) → Tiles datagram 0 found end → bytes_of datagram 0 found ++ drop end datagram ≡ datagram
walk-bytes datagram found end tiles = rw (← tiles-bytes datagram tiles) (take-append-drop end datagram)

pub walk-count : (datagram : List ℕ) (found : List Step) (last : Step) → Walks datagram 0 found last → 7 * length found ≤ length datagram
walk-count datagram found last w =
    let t = walks_tile datagram (omega arith) w in
    omega (arith, tiles-count datagram t.tiles, t.inside)
