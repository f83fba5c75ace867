-- The tests of a step say what the documents say of the places of a datagram, and how bytes that are passed over are counted.
-- Assumes nothing.
use mathlib.Core.Path.{◌≡◌, refl, sym, ap, ◌∙◌}
use mathlib.Core.Logic.{by_cases}
use mathlib.Core.Bool.{Bool, true, false}
use mathlib.Core.List.{List}
use Prim.Native.Nat.{ℕ, zero, suc, ◌+◌, ◌-◌, ◌<◌, ◌≤◌}
use native.Mathlib.Decide.{ℕ_discrete}
use native.Mathlib.Omega.{arith}
use lib.ListN.{length, get_or, drop, length-drop}
use lib.Seq.{get_or-drop}
use borrow.Author.Tests.{eqb-true, eqb-false, eq-eqb}
use Rattle.lists.proofs.Every.{every-each, each-every, every_fails}
use Rattle.messages.specs.Fill.{is_zero, only_zeros}
use Rattle.messages.specs.Places.{byte_at, PassedOver, ZerosFrom, Spoilt, total_at}
use Rattle.messages.specs.Step.{declared_length}

module _ (datagram : List ℕ) where
  -- ---- bytes that are passed over
  pub passed_none : (position : ℕ) → position ≤ length datagram → PassedOver datagram position position
  passed_none position h = record { onward = omega arith; inside = h; each = λ n l u. absurd (omega arith) }

  passed-one : (position place : ℕ) → byte_at datagram position ≡ 81 → PassedOver datagram (position + 1) place → PassedOver datagram position place
  passed-one position place e p = record { onward = omega (arith, p.onward); inside = p.inside; each = each }
    where
      each : (n : ℕ) → position ≤ n → n < place → byte_at datagram n ≡ 81
      each n l u = by_cases (ℕ_discrete n position) (λ same. ap (byte_at datagram) same ∙ e) (λ other. p.each n (omega arith) u)

  -- they end somewhere: at the end, or at another byte
  abbrev pub Ended : ℕ → Type 0
  Ended position = (place : ℕ) × PassedOver datagram position place × (place < length datagram → byte_at datagram place ≡ 81 → ⊥)

  passed_to : (n position : ℕ) → position + n ≡ length datagram → Ended position
  passed_to zero position h = (position, passed_none position (omega arith), λ l e. absurd (omega arith))
  passed_to (suc n) position h =
      let ended = passed_to n (position + 1) (omega arith) in
      by_cases (ℕ_discrete (byte_at datagram position) 81)
      (λ e. (ended.0, passed-one position ended.0 e ended.1, ended.2))
      (λ other. (position, passed_none position (omega arith), λ l. other))

  pub passed-ends : (position : ℕ) → position ≤ length datagram → Ended position
  passed-ends position h = passed_to (length datagram - position) position (omega arith)

  -- and at one place only: they do not go on behind another byte
  not_behind : {position place other : ℕ} → PassedOver datagram position place → (place < length datagram → byte_at datagram place ≡ 81 → ⊥)
      → PassedOver datagram position other → place < other → ⊥
  not_behind {position} {place} p h q l = h (omega (arith, q.inside)) (q.each place p.onward l)

  pub same_place : {position place other : ℕ} → PassedOver datagram position place → (place < length datagram → byte_at datagram place ≡ 81 → ⊥)
      → PassedOver datagram position other → (other < length datagram → byte_at datagram other ≡ 81 → ⊥) → other ≡ place
  same_place p h q k = omega (arith, not_behind p h q, not_behind q k p)

-- ---- what is left from a place on
module _ (datagram : List ℕ) (place : ℕ) where
  pub left-declares : declared_length (drop place datagram) ≡ total_at datagram place
  left-declares = rw (get_or-drop place datagram 1 0, get_or-drop place datagram 2 0)

  pub only_from : only_zeros (drop place datagram) ≡ true → ZerosFrom datagram place
  only_from e n h l =
      let k = n - place in
      let here : get_or (drop place datagram) k 0 ≡ byte_at datagram n = get_or-drop place datagram k 0 ∙ ap (byte_at datagram) (omega arith) in
      sym here ∙ eqb-true _ 0 (every-each is_zero 0 (drop place datagram) e k (omega (arith, length-drop place datagram)))

  pub from_only : ZerosFrom datagram place → only_zeros (drop place datagram) ≡ true
  from_only z =
      each-every is_zero 0 (drop place datagram)
      (λ k l. eq-eqb _ 0 (get_or-drop place datagram k 0 ∙ z (place + k) (omega arith) (omega (arith, length-drop place datagram))))

  pub spoilt_at : byte_at datagram place ≡ 0 → only_zeros (drop place datagram) ≡ false → Spoilt datagram place
  spoilt_at z e =
      let at = every_fails is_zero 0 (drop place datagram) e in
      let other = place + at.0 in
      let differs : byte_at datagram other ≡ 0 → ⊥ = λ y. eqb-false _ 0 at.2 (get_or-drop place datagram at.0 0 ∙ y) in
      let apart : other ≡ place → ⊥ = λ same. differs (ap (byte_at datagram) same ∙ z) in
      record { zero = z; other = other; behind = omega (arith, apart); inside = omega (arith, at.1, length-drop place datagram); differs = differs }

  pub spoilt_only : Spoilt datagram place → only_zeros (drop place datagram) ≡ false
  spoilt_only s = decided (only_zeros (drop place datagram)) refl
    where
      decided : (b : Bool) → only_zeros (drop place datagram) ≡ b → only_zeros (drop place datagram) ≡ false
      decided true e = absurd (s.differs (only_from e s.other (omega (arith, s.behind)) s.inside))
      decided false e = e
