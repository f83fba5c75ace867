-- The messages that stepping finds tile the datagram, in order, up to the place where it ends.
-- Assumes nothing.
use mathlib.Core.Path.{◌≡◌, refl, sym, ap, ◌∙◌}
use mathlib.Core.Logic.{⊎_elim}
use mathlib.Core.Bool.{true}
use mathlib.Core.List.{List, ◌∷◌, ◌++◌, append-nil, append_assoc}
use Prim.Native.Nat.{ℕ, ◌+◌, ◌-◌, ◌*◌, ◌<◌, ◌≤◌}
use native.Mathlib.Omega.{arith}
use lib.ListN.{length, take, drop, replicate, length-drop}
use lib.Seq.{take-add, get_or-take, get_or-drop, length-take-le}
use borrow.Author.Tests.{eq-eqb, eqb-true}
use Rattle.lists.proofs.Every.{each-every, every_only}
use Rattle.messages.specs.declared.Step.{Step}
use Rattle.messages.specs.Fill.{is_fill}
use Rattle.messages.specs.Places.{PassedOver, NoneLeft, LieAt}
use Rattle.messages.specs.Step.{finished, message, lie, is_lie, step_message}
use Rattle.messages.specs.Working.Stepping.{Stepping, past, ends, spoils, lies, finds}
use Rattle.messages.specs.Tiling.{Tiles, none, next, Leads, Stops, at-end, at_spoilt, at-lie, Tiled, bytes_of}
use Rattle.messages.specs.Walk.{Walks, stops, goes}
use Rattle.messages.proofs.Stepping.{step-goes, tells_lie, found_exact, answer-inside}
use Rattle.messages.proofs.Ways.{same-status, same_start, same_length, same_missing, lie_apart}
use Rattle.messages.proofs.Walk.{One, none-or-one}

module _ (datagram : List ℕ) where
  -- ---- the messages found tile the datagram
  rest_at : (position : ℕ) → position ≤ length datagram → (step_message datagram position).length ≡ 0 → Stops datagram position (step_message datagram position)
  rest_at position h z = go (step-goes datagram position)
    where
      go : Stepping datagram position → Stops datagram position (step_message datagram position)
      go (past l q) = absurd (omega arith)
      go (ends f q) = at-end f q
      go (spoils s q) = at_spoilt s q
      go (lies start number missing p l q) = at-lie start number missing p l q
      go (finds start total p w q) = absurd (omega (arith, same_length q, w.least))

  one_more : {position : ℕ} {answer last : Step} {found : List Step} → answer ≡ step_message datagram position → 0 < answer.length
      → Tiled datagram (answer.start + answer.length) found last → Tiled datagram position (answer ∷ found) last
  one_more {position} {answer} {last} {found} a l t = ⊎_elim none_found found-one (none-or-one datagram position)
    where
      none_found : (step_message datagram position).length ≡ 0 → Tiled datagram position (answer ∷ found) last
      none_found z = absurd (omega (arith, same_length a))

      found-one : One datagram position → Tiled datagram position (answer ∷ found) last
      found-one m =
          let same : answer ≡ message m.start m.total = a ∙ m.answers in
          let behind = rw same at t in
          rw same (record { end = behind.end; inside = behind.inside; tiles = next m.passed m.whole behind.tiles; rest = behind.rest })

  pub walks_tile : {position : ℕ} {found : List Step} {last : Step} → position ≤ length datagram → Walks datagram position found last → Tiled datagram position found last
  walks_tile {position} h (stops a z) = record { end = position; inside = h; tiles = none; rest = rw a (rest_at position h (rw a at z)) }
  walks_tile {position} h (goes a l w) = one_more a l (walks_tile (rw a (answer-inside datagram position)) w)

  -- ---- where stepping ends in "finished", no message is left behind the last one
  pub walks_fill : {position : ℕ} {found : List Step} → position ≤ length datagram → Walks datagram position found finished
      → (end : ℕ) × Tiles datagram position found end × NoneLeft datagram end
  walks_fill {position} {found} h w = let t = walks_tile h w in go t t.rest
    where
      go : (t : Tiled datagram position found finished) → Stops datagram t.end finished → (end : ℕ) × Tiles datagram position found end × NoneLeft datagram end
      go t (at-end f q) = (t.end, t.tiles, f)
      go t (at_spoilt s q) = absurd (omega (arith, same-status q))
      go t (at-lie start number missing p l q) = lie_apart (sym q) (tells_lie datagram l.1) refl

  -- ---- where it ends in a lie, the messages lead to the message that tells it, and where they do, it ends so
  pub walks_lie : {position number start missing : ℕ} {found : List Step} → is_lie number ≡ true → position ≤ length datagram
      → Walks datagram position found (lie number start missing) → Leads datagram position found start × LieAt datagram start number missing
  walks_lie {position} {number} {start} {missing} {found} one h w = let t = walks_tile h w in go t t.rest
    where
      go : (t : Tiled datagram position found (lie number start missing)) → Stops datagram t.end (lie number start missing)
          → Leads datagram position found start × LieAt datagram start number missing
      go t (at-end f q) = lie_apart q one refl
      go t (at_spoilt s q) = lie_apart q one refl
      go t (at-lie place n m p l q) = ((t.end, t.tiles, rw (same_start q) p), rw (same-status q, same_start q, same_missing q) l)

  pub tiles-walk : {from to : ℕ} {found : List Step} {last : Step} → Tiles datagram from found to → step_message datagram to ≡ last → last.length ≡ 0 → Walks datagram from found last
  tiles-walk none e z = stops (sym e) z
  tiles-walk {from} (next {start = start} {total = total} p w t) e z =
      let here = (found_exact datagram from start total).1 (p, w) in
      goes (sym here.0) here.1 (tiles-walk t e z)

  -- ---- what tiling says
  pub tiles-count : {from to : ℕ} {found : List Step} → Tiles datagram from found to → from + 7 * length found ≤ to
  tiles-count none = omega arith
  tiles-count (next p w t) = omega (arith, p.onward, w.least, tiles-count t)

  -- the bytes that are passed over are as many 81s
  passed-bytes : {position place : ℕ} → PassedOver datagram position place → take place datagram ≡ take position datagram ++ replicate (place - position) 81
  passed-bytes {position} {place} p =
      let n = place - position in
      let between = take n (drop position datagram) in
      let long : length between ≡ n = length-take-le n (drop position datagram) (omega (arith, p.onward, p.inside, length-drop position datagram)) in
      let all = each-every is_fill 0 between (λ k l. eq-eqb _ 81 (get_or-take n (drop position datagram) k 0 (omega arith) ∙ get_or-drop position datagram k 0 ∙ p.each (position + k) (omega arith) (omega (arith, p.onward)))) in
      let to : place ≡ position + n = omega (arith, p.onward) in
      ap (λ (m : ℕ). take m datagram) to
      ∙ take-add position n datagram
      ∙ ap (λ (l : List ℕ). take position datagram ++ l) (every_only is_fill 81 (λ b e. eqb-true b 81 e) between all ∙ ap (λ (m : ℕ). replicate m 81) long)

  pub tiles-bytes : {from to : ℕ} {found : List Step} → Tiles datagram from found to → take to datagram ≡ take from datagram ++ bytes_of datagram from found
  unfolding bytes_of
  tiles-bytes none = sym (append-nil _)
  tiles-bytes (next {start = start} {total = total} p w t) = tiles-bytes t ∙ simp (take-add start total datagram, passed-bytes p, append_assoc)
