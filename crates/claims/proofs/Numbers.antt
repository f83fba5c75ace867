-- Each call's number is that of the first line that applies: the ways that the calls go, against document 01's lines.
-- Assumes nothing.
use mathlib.Core.Path.{◌≡◌, refl, sym, ap, ◌∙◌}
use mathlib.Core.Logic.{inl, inr}
use mathlib.Core.Bool.{Bool, true, false, true≢false}
use mathlib.Core.List.{List}
use Prim.Native.Nat.{ℕ, ◌<◌}
use native.Mathlib.Omega.{arith}
use lib.ListN.{length}
use Rattle.answers.specs.declared.Written.{Written}
use Rattle.answers.specs.Numbers.{not_offered, broken_fill}
use Rattle.answers.specs.Outcome.{Wrote}
use Rattle.answers.specs.Task.{Task, write_task}
use Rattle.answers.proofs.Task as t
use Rattle.answers.proofs.Wrote.{told}
use Rattle.blocks.specs.declared.Block.{Block}
use Rattle.blocks.proofs.WaysOfReading as rb
use Rattle.words.specs.declared.Word.{Word}
use Rattle.words.specs.Calls.{read_word}
use Rattle.words.proofs.Ways as w
use Rattle.slots.specs.declared.Slot.{Slot}
use Rattle.slots.specs.Burst.{block_part, is_slot_link}
use Rattle.slots.proofs.WaysOfReading as rs
use Rattle.messages.specs.declared.Step.{Step}
use Rattle.messages.specs.Places.{byte_at, PassedOver, Behind, Spoilt, Begins, FewLeft, SmallLength, MessagePastEnd, Tells, few_left_lie, small_length_lie, past_the_end}
use Rattle.messages.specs.Step.{refused, lie, step_message}
use Rattle.messages.specs.Working.Stepping.{Stepping, past, ends, spoils, lies, finds}
use Rattle.messages.proofs.Places.{same_place}
use Rattle.messages.proofs.Stepping.{spoilt_exact}
use Rattle.messages.proofs.Ways.{same-status}
use Rattle.claims.specs.Lines.{Lines, none as no_more, line, Given}
use Rattle.claims.specs.Calls as calls
use Rattle.claims.proofs.Endings.{writers}

abbrev block-status : Block → ℕ
block-status answer = answer.status

abbrev slot-status : Slot → ℕ
slot-status answer = answer.status

-- a test that came out true did not come out false
pub true_passes : {b : Bool} → b ≡ true → b ≡ false → ⊥
true_passes t f = true≢false (sym t ∙ f)

-- and one that did not come out false came out true
pub not_false_true : (b : Bool) → (b ≡ false → ⊥) → b ≡ true
not_false_true true h = refl
not_false_true false h = absurd (h refl)

-- ---- link words
module _ (n : ℕ) (old new : List ℕ) (answer : Written) (wr : calls.WroteWord n old new answer) where
  pub writes_word : w.Writing n (length old) → Given (calls.write_word_lines n (length old)) answer.status
  unfolding Given
  writes_word (w.too_high h e) = inl (h, told wr writers.status e)
  writes_word (w.too_short h s e) = inr (λ k. omega arith, inl (s, told wr writers.status e))
  writes_word (w.writes h s e) = inr (λ k. omega arith, inr (λ k. omega arith, told wr writers.status e))

module _ (row : List ℕ) (answer : Word) (e : calls.ReadWord row answer) where
  status-read : {word : Word} → read_word row ≡ word → answer.status ≡ word.status
  status-read f = ap (λ (a : Word). a.status) (e ∙ f)

  pub reads_word : w.Reading row → Given (calls.read_word_lines row) answer.status
  unfolding Given
  reads_word (w.no_length l f) = inl (l, status-read f)
  reads_word (w.no_bits l a f) = inr (λ k. k l, inl (a, status-read f))
  reads_word (w.none_near l a none f) = inr (λ k. k l, inr (true_passes a, inl (none, status-read f)))
  reads_word (w.reads l a n wrong near f) =
      inr (λ k. k l, inr (true_passes a, inr (λ k. omega (arith, k n near.known, near.count, near.within), status-read f)))

-- ---- datagrams, written as blocks and as slot bursts
module _ (task : Task) (old new : List ℕ) (answer : Written) (wr : Wrote (write_task task (length old)) old new answer) where
  pub writes_task : t.Writing task (length old) → Given (calls.task_lines task (length old)) answer.status
  unfolding Given
  writes_task (t.unoffered o e) = inl (o, told wr writers.status e)
  writes_task (t.too_long o h e) = inr (true_passes o, inl (h, told wr writers.status e))
  writes_task (t.too_short o h s e) = inr (true_passes o, inr (λ k. omega arith, inl (s, told wr writers.status e)))
  writes_task (t.writes o h s e) = inr (true_passes o, inr (λ k. omega arith, inr (λ k. omega arith, told wr writers.status e)))

-- ---- blocks
module _ (link : ℕ) (bits old new : List ℕ) (answer : Block) (wr : calls.ReadBlock link bits old new answer) where
  pub reads-block : rb.Reading link bits (length old) → Given (calls.read_block_lines link bits (length old)) answer.status
  unfolding Given
  reads-block (rb.unoffered o e) = inl (o, told wr block-status e)
  reads-block (rb.no_length o s e) = inr (true_passes o, inl (s, told wr block-status e))
  reads-block (rb.too_short o s r e) = inr (true_passes o, inr (λ k. k s, inl (r, told wr block-status e)))
  reads-block (rb.no_bits o s r a e) = inr (true_passes o, inr (λ k. k s, inr (λ k. omega arith, inl (a, told wr block-status e))))
  reads-block (rb.none_near o s r a f e) = inr (true_passes o, inr (λ k. k s, inr (λ k. omega arith, inr (true_passes a, inl (f, told wr block-status e)))))
  reads-block (rb.reads o s r a u n e) = inr (true_passes o, inr (λ k. k s, inr (λ k. omega arith, inr (true_passes a, inr (λ k. k u n, told wr block-status e)))))

-- ---- slot bursts
module _ (burst old new : List ℕ) (answer : Slot) (wr : calls.ReadSlot burst old new answer) where
  -- the lines of the training are passed, and those of the word
  past-training : rs.Trained burst → (behind : Lines) → Given behind answer.status → Given (calls.training_lines burst behind) answer.status
  unfolding Given
  past-training t behind g = inr (λ k. omega (arith, t.long, k), inr (true_passes t.bits, inr (λ k. omega (arith, t.within, k), g)))

  past_word : (link wrong : ℕ) → rs.Named burst link wrong → Given (line not_offered (is_slot_link link ≡ false) (calls.rest_lines link (block_part burst) (length old))) answer.status
      → Given (calls.read_slot_lines burst (length old)) answer.status
  unfolding Given
  past_word link wrong n g =
      let name = ap (λ (word : Word). word.number) n.read in
      past-training n.trained (calls.word_lines burst (calls.rest_lines (calls.named burst) (block_part burst) (length old)))
      (inr (λ k. omega (arith, k link n.near.known, n.near.count, n.near.within), rw name g))

  past_head : (link wrong : ℕ) → rs.Headed burst link wrong → Given (calls.rest_lines link (block_part burst) (length old)) answer.status
      → Given (calls.read_slot_lines burst (length old)) answer.status
  unfolding Given
  past_head link wrong h g = past_word link wrong h.named (inr (true_passes h.slot, g))

  pub reads-slot : rs.Reading burst (length old) → Given (calls.read_slot_lines burst (length old)) answer.status
  unfolding Given
  reads-slot (rs.too_few h e) = inl (h, told wr slot-status e)
  reads-slot (rs.no_bits l a e) = inr (λ k. omega (arith, l, k), inl (a, told wr slot-status e))
  reads-slot (rs.no_training_lem l a t e) = inr (λ k. omega (arith, l, k), inr (true_passes a, inl (t, told wr slot-status e)))
  reads-slot (rs.no_word_lem t f e) =
      past-training t (calls.word_lines burst (calls.rest_lines (calls.named burst) (block_part burst) (length old))) (inl (f, told wr slot-status e))
  reads-slot (rs.no_slot link wrong n s e) = past_word link wrong n (inl (s, told wr slot-status e))
  reads-slot (rs.no_length link wrong h s e) = past_head link wrong h (inl (s, told wr slot-status e))
  reads-slot (rs.too_short link wrong h s r e) = past_head link wrong h (inr (λ k. k s, inl (r, told wr slot-status e)))
  reads-slot (rs.rest-no-bits link wrong h z a e) = past_head link wrong h (inr (λ k. k z.size, inr (λ k. omega (arith, z.fits, k), inl (a, told wr slot-status e))))
  reads-slot (rs.none_near link wrong h z a f e) = past_head link wrong h (inr (λ k. k z.size, inr (λ k. omega (arith, z.fits, k), inr (true_passes a, inl (f, told wr slot-status e)))))
  reads-slot (rs.reads link wrong h z a u n e) = past_head link wrong h (inr (λ k. k z.size, inr (λ k. omega (arith, z.fits, k), inr (true_passes a, inr (λ k. k u n, told wr slot-status e)))))

-- ---- steps
module _ (datagram : List ℕ) (position : ℕ) (answer : Step) (e : calls.Stepped datagram position answer) where
  status-step : {step : Step} → step_message datagram position ≡ step → answer.status ≡ step.status
  status-step f = same-status (e ∙ f)

  -- a line that would give another answer does not apply
  other : {A : Type 0} {step : Step} {number : ℕ} → step_message datagram position ≡ step → (A → step_message datagram position ≡ refused number) → (step.status ≡ number → ⊥) → A → ⊥
  other f line-says differs applies = differs (same-status (sym f ∙ line-says applies))

  inside : {place : ℕ} → PassedOver datagram position place → length datagram < position → ⊥
  inside p h = omega (arith, p.onward, p.inside)

  -- what is not so of the message behind the 81s is so of none: there is one place only
  module _ {place : ℕ} (p : PassedOver datagram position place) (other_byte : place < length datagram → byte_at datagram place ≡ 81 → ⊥) where
    not_so : (Is : List ℕ → ℕ → Type 0) → (Begins datagram place → Is datagram place → ⊥) → calls.OfMessage datagram position Is → ⊥
    not_so Is differs (found, q, (b, is)) =
        let same = same_place datagram p other_byte q (λ l. b.no_fill) in
        differs (rw same at b) (rw same at is)

    -- where no message lies, and where none begins
    no-lies : (number : ℕ) → (Begins datagram place → (FewLeft datagram place → ⊥) × (SmallLength datagram place → ⊥) × (MessagePastEnd datagram place → ⊥))
        → Given (line broken_fill (Behind datagram position (Spoilt datagram)) no_more) number → Given (calls.step_lines datagram position) number
    unfolding Given
    no-lies number honest rest =
        inr (inside p, inr (not_so FewLeft (λ b. (honest b).0), inr (not_so SmallLength (λ b. (honest b).1), inr (not_so MessagePastEnd (λ b. (honest b).2), rest))))

  lied : {start number missing : ℕ} → PassedOver datagram position start → Begins datagram start → Tells datagram start number missing → step_message datagram position ≡ lie number start missing
      → Given (calls.step_lines datagram position) answer.status
  unfolding Given
  lied {start} p b (few_left_lie h) f = inr (inside p, inl ((start, p, (b, h)), status-step f))
  lied {start} p b (small_length_lie k h) f = inr (inside p, inr (not_so p (λ l. b.no_fill) FewLeft (λ c. k), inl ((start, p, (b, h)), status-step f)))
  lied {start} p b (past_the_end k s h) f =
      inr (inside p, inr (not_so p (λ l. b.no_fill) FewLeft (λ c. k), inr (not_so p (λ l. b.no_fill) SmallLength (λ c. s), inl ((start, p, (b, h)), status-step f))))

  pub steps : Stepping datagram position → Given (calls.step_lines datagram position) answer.status
  unfolding Given
  steps (past h f) = inl (h, status-step f)
  steps (lies start number missing p l f) = lied p l.0 l.1 f
  steps (spoils (place, p, s) f) =
      no-lies p (λ l k. omega (arith, k, s.zero)) answer.status (λ b. absurd (b.no_zero s.zero)) (inl ((place, p, s), status-step f))
  steps (ends (place, p, z) f) =
      no-lies p (λ l k. omega (arith, k, z place (omega arith) l)) answer.status (λ b. absurd (b.no_zero (z place (omega arith) b.inside)))
      (inr (other f (spoilt_exact datagram position).1 (λ y. omega (arith, y)), status-step f))
  steps (finds start total p w f) =
      no-lies p (λ l. w.begins.no_fill) answer.status
      (λ b. (λ h. omega (arith, h, w.least, w.ends), λ h. omega (arith, h, w.least, w.declares), λ h. omega (arith, h, w.ends, w.declares)))
      (inr (other f (spoilt_exact datagram position).1 (λ y. omega (arith, y)), status-step f))
