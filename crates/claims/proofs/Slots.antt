-- What is shown of slot bursts, from the laws of the crate `slots`.
-- Assumes nothing.
use mathlib.Core.Path.{◌≡◌, refl, sym, ap, ◌∙◌}
use mathlib.Core.Logic.{◌↔◌, inl, inr}
use mathlib.Core.Bool.{Bool, true}
use mathlib.Core.List.{List, map}
use Prim.Native.Nat.{ℕ, ◌≤◌}
use native.Mathlib.Omega.{arith}
use lib.ListN.{length, take, length-map}
use Rattle.answers.specs.declared.Written.{Written}
use Rattle.answers.specs.Numbers.{done, not_offered, wrong_length, no_room, no_bit, no_training, no_word, no_block}
use Rattle.answers.proofs.Wrote.{told}
use Rattle.bits.specs.Bits.{is_one, byte, all_bits}
use Rattle.bits.specs.Row.{differences}
use Rattle.bits.specs.Datagram.{all_bytes}
use Rattle.bits.proofs.Differences.{differences_self}
use Rattle.links.specs.Rows.{row_of}
use Rattle.links.specs.Sizes.{bytes_held}
use Rattle.links.proofs.Good.{good}
use Rattle.blocks.specs.Block.{block_of, image_of, datagram_of, zero_filled}
use Rattle.blocks.specs.Near.{Near as NearBlock}
use Rattle.blocks.proofs.Blocks.{length-datagram, block-valid, datagram-in-block}
use Rattle.blocks.proofs.Exact as blocks
use Rattle.words.specs.Word.{word_bits}
use Rattle.words.proofs.Apart as words
use Rattle.slots.specs.declared.Slot.{Slot}
use Rattle.slots.specs.Burst.{training, head_length, head_part, training_part, word_part, block_part, is_slot_link, burst_length, burst_of}
use Rattle.slots.specs.Near.{Near}
use Rattle.slots.specs.Head.{wrong_in_training}
use Rattle.slots.specs.Calls.{slot_task, read_slot, refused as refusal}
use Rattle.slots.specs.Working.Reading.{reading}
use Rattle.slots.proofs.Answered.{burst-answered}
use Rattle.slots.proofs.Links.{slot-offered, slot-has-word}
use Rattle.slots.proofs.Parts.{training-of-burst, word_of-burst, block_of-burst}
use Rattle.slots.proofs.WaysOfReading as r
use Rattle.slots.proofs.Writing.{long-burst}
use Rattle.claims.specs.Lines.{Given}
use Rattle.claims.specs.Calls.{WroteSlot, ReadSlot, named, word_lines, rest_lines, read_slot_lines, SlotAnswer}
use Rattle.claims.proofs.Lines.{one_number, never_given}
use Rattle.claims.proofs.Numbers.{true_passes, not_false_true, reads-slot}
use Rattle.claims.proofs.Tasks.{Met, met, done-met}
use Rattle.claims.proofs.Endings.{Kind, Ends, refuses, answers, laid_in, refused-with, given_in}

-- ---- reading ends in two ways: a refusal, or the datagram of a burst that is near
pub record Found (burst : List ℕ) (room : ℕ) : Type 0 where
  pub link : ℕ
  pub wrong : ℕ
  pub head : r.Headed burst link wrong
  pub sized : r.Sized burst room link
  pub u : List Bool
  pub near : NearBlock (row_of link) (map is_one (block_part burst)) u

abbrev pub readers : (burst : List ℕ) (room : ℕ) → Kind Slot (Found burst room)
readers burst room = record {
  status = λ answer. answer.status;
  count = λ answer. answer.count;
  refused = λ number. (refusal number).answer;
  given = λ found. reading (datagram_of (row_of found.link) found.u) (differences (image_of (row_of found.link) found.u) (map is_one (block_part burst))) found.link found.wrong (wrong_in_training burst);
  numbered = λ number. refl;
  uncounted = λ number. refl;
  is-done = λ found. refl;
  counts = λ found. refl;
}

ending : {burst : List ℕ} {room : ℕ} → r.Reading burst room → Ends (readers burst room) (read_slot burst room)
ending (r.too_few h e) = refuses wrong_length (λ z. omega (arith, z)) e
ending (r.no_bits l a e) = refuses no_bit (λ z. omega (arith, z)) e
ending (r.no_training_lem l a t e) = refuses no_training (λ z. omega (arith, z)) e
ending (r.no_word_lem t f e) = refuses no_word (λ z. omega (arith, z)) e
ending (r.no_slot link wrong n s e) = refuses not_offered (λ z. omega (arith, z)) e
ending (r.no_length link wrong h s e) = refuses wrong_length (λ z. omega (arith, z)) e
ending (r.too_short link wrong h s f e) = refuses no_room (λ z. omega (arith, z)) e
ending (r.rest-no-bits link wrong h s a e) = refuses no_bit (λ z. omega (arith, z)) e
ending (r.none_near link wrong h s a f e) = refuses no_block (λ z. omega (arith, z)) e
ending (r.reads link wrong h s a u n e) = answers (record { link = link; wrong = wrong; head = h; sized = s; u = u; near = n }) e

pub ends : (burst : List ℕ) (room : ℕ) → Ends (readers burst room) (read_slot burst room)
ends burst room = ending (r.reading-goes burst room)

-- ---- what an outcome says of the answer
module _ (burst old new : List ℕ) (answer : Slot) (wr : ReadSlot burst old new answer) where
  pub refused : (answer.status ≡ done → ⊥) → (answer.count ≡ 0) × (answer.wrong ≡ 0) × (answer.link ≡ 0) × (answer.word_wrong ≡ 0) × (answer.training_wrong ≡ 0) × (new ≡ old)
  refused z =
      let r = refused-with (ends burst (length old)) wr z in
      (ap (λ (a : Slot). a.count) r.1, ap (λ (a : Slot). a.wrong) r.1, ap (λ (a : Slot). a.link) r.1, ap (λ (a : Slot). a.word_wrong) r.1, ap (λ (a : Slot). a.training_wrong) r.1, r.2)

  pub full : answer.status ≡ done → answer.count ≡ bytes_held (row_of answer.link)
  full z =
      let g = given_in (ends burst (length old)) wr z in
      told wr (λ (a : Slot). a.count) g.1 ∙ length-datagram (row_of g.0.link) g.0.u ∙ ap (λ (l : ℕ). bytes_held (row_of l)) (sym (told wr (λ (a : Slot). a.link) g.1))

  -- a burst that is read is answered with the true count of its training
  pub training-counted : answer.status ≡ done → (answer.training_wrong ≡ wrong_in_training burst) × (answer.training_wrong ≤ 8)
  training-counted z =
      let g = given_in (ends burst (length old)) wr z in
      let true-count = told wr (λ (a : Slot). a.training_wrong) g.1 in
      (true-count, omega (arith, true-count, g.0.head.named.trained.within))

  -- and 5 is given exactly at nine or more: of all the lines one has a 5
  abbrev Untrained : Type 0
  Untrained = (head_length ≤ length burst) × (all_bits (head_part burst) ≡ true) × (9 ≤ wrong_in_training burst)

  pub training-refused : (answer.status ≡ no_training) ↔ Untrained
  unfolding Given
  training-refused =
      let number = reads-slot burst old new answer wr (r.reading-goes burst (length old)) in
      (five number, λ h. one_number (read_slot_lines burst (length old)) _ _ number (inr (λ k. omega (arith, k, h.0), inr (true_passes h.1, inl (h.2, refl)))))
    where
      five : Given (read_slot_lines burst (length old)) answer.status → answer.status ≡ no_training → Untrained
      five (inl (short, e)) z = absurd (omega (arith, e, z))
      five (inr (p, inl (f, e))) z = absurd (omega (arith, e, z))
      five (inr (p, inr (q, inl (far, e)))) z = (omega (arith, p), not_false_true (all_bits (head_part burst)) q, far)
      five (inr (p, inr (q, inr (near, g)))) z = absurd (never_given (word_lines burst (rest_lines (named burst) (block_part burst) (length old))) no_training refl (rw z at g))

  answers_with : (datagram : List ℕ) (wrong link wordWrong inTraining : ℕ) → read_slot burst (length old) ≡ reading datagram wrong link wordWrong inTraining
      → SlotAnswer datagram wrong link wordWrong inTraining old new answer
  answers_with datagram wrong link wordWrong inTraining e =
      record {
        status = told wr (λ (a : Slot). a.status) e;
        laid = laid_in (ends burst (length old)) wr e;
        wrongs = told wr (λ (a : Slot). a.wrong) e;
        links = told wr (λ (a : Slot). a.link) e;
        word-wrongs = told wr (λ (a : Slot). a.word_wrong) e;
        training-wrongs = told wr (λ (a : Slot). a.training_wrong) e;
      }

-- ---- reading is exact
module _ (came : List Bool) (old new : List ℕ) (answer : Slot) (wr : ReadSlot (map byte came) old new answer) where
  pub answered : (link wordWrong : ℕ) (u : List Bool) → Near came link wordWrong u → bytes_held (row_of link) ≤ length old
      → SlotAnswer (datagram_of (row_of link) u) (differences (image_of (row_of link) u) (block_part came)) link wordWrong (differences training (training_part came)) old new answer
  answered link wordWrong u n room = answers_with (map byte came) old new answer wr _ _ _ _ _ (burst-answered came link wordWrong u n (length old) room)

  pub exact : (answer.status ≡ done) ↔ ((link : ℕ) × (wordWrong : ℕ) × (u : List Bool) × Near came link wordWrong u × (bytes_held (row_of link) ≤ length old))
  exact = (
    λ z. let f = (given_in (ends (map byte came) (length old)) wr z).0 in (f.link, f.wrong, f.u, r.near_burst came f.link f.wrong f.head f.sized f.u f.near, f.sized.fits),
    λ some. (answered some.0 some.1 some.2 some.3 some.4).status,
  )

pub only_one : (came : List Bool) (link link' wrong wrong' : ℕ) (u u' : List Bool) → Near came link wrong u → Near came link' wrong' u' → (link ≡ link') × (wrong ≡ wrong') × (u ≡ u')
only_one came link link' wrong wrong' u u' n n' =
    let near = n.head.word in
    let near' = n'.head.word in
    let same : link ≡ link' = words.only_one (word_part came) link link' near.known near'.known (omega (arith, near.count, near.within)) (omega (arith, near'.count, near'.within)) in
    let row = ap row_of same in (
      same,
      sym near.count ∙ ap (λ (l : ℕ). differences (word_bits l) (word_part came)) same ∙ near'.count,
      blocks.only_one (row_of link') (good link' (slot-offered link' n'.head.slot)) (block_part came) u u' (rw row at n.block) n'.block,
    )

-- ---- what was written
pub written : (link : ℕ) (datagram old new : List ℕ) (answer : Written) → is_slot_link link ≡ true → length datagram ≤ bytes_held (row_of link) → burst_length link ≤ length old
    → WroteSlot link datagram old new answer
    → (answer.status ≡ done) × (answer.count ≡ burst_length link) × (take answer.count new ≡ map byte (burst_of link datagram))
written link datagram old new answer o h room wr =
    let m = met (slot_task link datagram) old new answer wr o h room in
    (m.status, m.long ∙ long-burst link o datagram h, m.bits)

-- ---- the way back: the burst with up to eight places of its training, seven of its word and one of its block wrong
module _ (link : ℕ) (datagram old new : List ℕ) (answer : Written) (bytes : all_bytes datagram ≡ true) (w : WroteSlot link datagram old new answer) (z : answer.status ≡ done) where
  i : Met (slot_task link datagram) new answer
  i = done-met (slot_task link datagram) old new answer w z

  burst-long : answer.count ≡ burst_length link
  burst-long = i.long ∙ long-burst link i.offered datagram i.fits

  pub mended : (came : List Bool) → length came ≡ answer.count → differences (training_part (burst_of link datagram)) (training_part came) ≤ 8
      → differences (word_part (burst_of link datagram)) (word_part came) ≤ 7 → differences (block_part (burst_of link datagram)) (block_part came) ≤ 1
      → (old' new' : List ℕ) (answer' : Slot) → bytes_held (row_of link) ≤ length old' → ReadSlot (map byte came) old' new' answer'
      → SlotAnswer (zero_filled (row_of link) datagram) (differences (block_part (burst_of link datagram)) (block_part came)) link (differences (word_part (burst_of link datagram)) (word_part came))
      (differences (training_part (burst_of link datagram)) (training_part came)) old' new' answer'
  mended came size trained word block old' new' answer' room wr =
      let row-good = good link (slot-offered link i.offered) in
      let u = block_of (row_of link) datagram in
      let near : Near came link (differences (word_bits link) (word_part came)) u = record {
        head = record {
          slot = i.offered;
          long = omega (arith, size, burst-long);
          trained = rw (training-of-burst link datagram) at trained;
          word = record { known = slot-has-word link i.offered; count = refl; within = rw (word_of-burst link datagram) at word };
        };
        size = size ∙ burst-long;
        block = record { right = block-valid (row_of link) row-good datagram i.fits; within = rw (block_of-burst link datagram) at block };
      } in
      rw (training-of-burst link datagram, word_of-burst link datagram, block_of-burst link datagram, ← datagram-in-block (row_of link) row-good datagram i.fits bytes)
      (answered came old' new' answer' wr link (differences (word_bits link) (word_part came)) u near room)

  pub back : (old' new' : List ℕ) (answer' : Slot) → bytes_held (row_of link) ≤ length old' → ReadSlot (take answer.count new) old' new' answer'
      → SlotAnswer (zero_filled (row_of link) datagram) 0 link 0 0 old' new' answer'
  back old' new' answer' room wr =
      let burst = burst_of link datagram in
      let train = differences_self (training_part burst) in
      let word = differences_self (word_part burst) in
      let block = differences_self (block_part burst) in
      let size = sym (length-map burst byte) ∙ sym i.long in
      rw (train, word, block) at (mended burst size (omega (arith, train)) (omega (arith, word)) (omega (arith, block)) old' new' answer' room (rw i.bits at wr))
