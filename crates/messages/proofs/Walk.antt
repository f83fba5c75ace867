-- Stepping through a datagram ends, and with one outcome.
-- Assumes nothing.
use mathlib.Core.Path.{◌≡◌, refl, sym, ap₂, ◌∙◌}
use mathlib.Core.Logic.{◌⊎◌, inl, inr, ⊎_elim}
use mathlib.Core.List.{List, ◌∷◌}
use Prim.Native.Nat.{ℕ, zero, suc, ◌-◌, ◌<◌, ◌≤◌}
use native.Mathlib.Omega.{arith}
use lib.ListN.{length}
use borrow.Author.Tests.{eq-eqb, ne_eqb}
use Rattle.messages.specs.declared.Step.{Step}
use Rattle.messages.specs.Places.{PassedOver, Whole}
use Rattle.messages.specs.Step.{message, step_message}
use Rattle.messages.specs.Working.Stepping.{Stepping, past, ends, spoils, lies, finds}
use Rattle.messages.specs.Walk.{Walks, stops, goes, walk_from, walk}
use Rattle.messages.proofs.Stepping.{step-goes}
use Rattle.messages.proofs.Ways.{same_start, same_length}

module _ (datagram : List ℕ) where
  -- ---- an answer has no length, or is a message
  pub record One (position : ℕ) : Type 0 where
    pub start : ℕ
    pub total : ℕ
    pub passed : PassedOver datagram position start
    pub whole : Whole datagram start total
    pub answers : step_message datagram position ≡ message start total

  pub none-or-one : (position : ℕ) → ((step_message datagram position).length ≡ 0) ⊎ One position
  none-or-one position = go (step-goes datagram position)
    where
      go : Stepping datagram position → ((step_message datagram position).length ≡ 0) ⊎ One position
      go (past h q) = inl (same_length q)
      go (ends h q) = inl (same_length q)
      go (spoils h q) = inl (same_length q)
      go (lies start number missing p l q) = inl (same_length q)
      go (finds start total p w q) = inr (record { start = start; total = total; passed = p; whole = w; answers = q })

  -- ---- stepping ends: every message takes bytes of what is left
  abbrev Ends : ℕ → ℕ → Type 0
  Ends position most = Walks datagram position (walk_from datagram position most).found (walk_from datagram position most).last

  none_left : (position : ℕ) → length datagram - position ≤ 0 → Ends position 0
  unfolding walk_from
  none_left position h = stops refl (⊎_elim (λ z. z) (λ m. absurd (omega (arith, m.passed.onward, m.whole.begins.inside))) (none-or-one position))

  some_left : (position most : ℕ) → length datagram - position ≤ suc most → ((onward : ℕ) → length datagram - onward ≤ most → Ends onward most) → Ends position (suc most)
  unfolding walk_from
  some_left position most h onward = ⊎_elim no-message a-message (none-or-one position)
    where
      no-message : (step_message datagram position).length ≡ 0 → Ends position (suc most)
      no-message z = rw (eq-eqb _ 0 z) (stops refl z)

      a-message : One position → Ends position (suc most)
      a-message m =
          let start = same_start m.answers in
          let total = same_length m.answers in
          let long : 0 < (step_message datagram position).length = omega (arith, total, m.whole.least) in
          rw (ne_eqb (step_message datagram position).length 0 (omega arith)) (goes refl long (onward _ (omega (arith, start, total, m.passed.onward, m.whole.ends))))

  ends-from : (position most : ℕ) → length datagram - position ≤ most → Ends position most
  ends-from position zero h = none_left position h
  ends-from position (suc most) h = some_left position most h (λ onward l. ends-from onward most l)

  pub walk_ends : Walks datagram 0 (walk datagram).found (walk datagram).last
  walk_ends = ends-from 0 (length datagram) (omega arith)

  -- ---- with one outcome
  pub walks_one : {position : ℕ} {found found' : List Step} {last last' : Step} → Walks datagram position found last → Walks datagram position found' last'
      → (found ≡ found') × (last ≡ last')
  walks_one (stops a z) (stops b y) = (refl, a ∙ sym b)
  walks_one (stops a z) (goes b l w) = absurd (omega (arith, same_length (a ∙ sym b)))
  walks_one (goes a l w) (stops b z) = absurd (omega (arith, same_length (a ∙ sym b)))
  walks_one (goes a l w) (goes b m v) =
      let same = a ∙ sym b in
      let rest = walks_one w (rw (← same) at v) in
      (ap₂ ◌∷◌ same rest.0, rest.1)
