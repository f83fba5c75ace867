-- The scrambler's run over a buffer: clock by clock, and a part of the buffer after another.
-- Assumes nothing.
use mathlib.Core.Path.{◌≡◌, refl, sym, ap, ap₂, ◌∙◌}
use mathlib.Core.Bool.{Bool}
use mathlib.Core.List.{List, [], ◌∷◌, ◌++◌}
use Prim.Native.Nat.{ℕ, zero, suc, ◌+◌, ◌*◌, ◌/◌, ◌^◌, ◌<◌}
use native.Mathlib.Nat.{zero-add, suc-add}
use native.Mathlib.Numerals.{add-one}
use borrow.Rule.Slice.PartMut.{put_mid}
use lib.Bits.{bit_xor}
use lib.ListN.{length, get_or, set, take, drop}
use Rattle.bits.specs.Bits.{byte}
use Rattle.bits.specs.Row.{number}
use Rattle.bits.specs.Xor.{◌⊕◌}
use Rattle.bits.proofs.Xor.{⊕-is, ⊕_comm}
use Rattle.bits.proofs.Row.{length-high_first, number-high_first}
use Rattle.scrambler.specs.Scrambler.{cells, output, shifted, sequence}
use Rattle.scrambler.specs.Working.Scrambles.{after, mixed, Scrambles}
use Rattle.scrambler.proofs.Register.{shifted-word, length-shifted, cells-number, number_small}

-- ---- the register that a run has come to
length-after : (n : ℕ) (row : List Bool) → length row ≡ 15 → length (after n row) ≡ 15
unfolding after
length-after zero row e = e
length-after (suc n) row e = length-after n (shifted row) (length-shifted row e)

after-add : (m n : ℕ) (row : List Bool) → after (m + n) row ≡ after n (after m row)
unfolding after
after-add zero n row = rw zero-add
after-add (suc m) n row = rw suc-add (after-add m n (shifted row))

module _ {state n register : ℕ} {old new : List ℕ} (s : Scrambles state n old new register) where
  come_to : cells register ≡ after n (cells state)
  come_to = ap cells s.runs_on ∙ cells-number (after n (cells state)) (length-after n (cells state) (length-high_first 15 state))

  small : register < 2 ^ 15
  small = rw s.runs_on (number_small (after n (cells state)) (length-after n (cells state) (length-high_first 15 state)))

-- ---- at the start
pub scrambles_none : (state : ℕ) (old : List ℕ) → state < 2 ^ 15 → Scrambles state 0 old old state
unfolding after mixed sequence
scrambles_none state old h = record { bytes = refl; runs_on = sym (number-high_first 15 state h) }

-- ---- one clock more
mixed_more : (n : ℕ) (row : List Bool) (bytes : List ℕ)
    → set (mixed (sequence n row) bytes) n (byte (output (after n row)) ⊕ get_or (mixed (sequence n row) bytes) n 0) ≡ mixed (sequence (suc n) row) bytes
unfolding after mixed sequence
mixed_more zero row [] = refl
mixed_more zero row (x ∷ bytes) = refl
mixed_more (suc n) row [] = refl
mixed_more (suc n) row (x ∷ bytes) = ap (λ (l : List ℕ). (byte (output row) ⊕ x) ∷ l) (mixed_more n (shifted row) bytes)

pub scrambles_more : {state n register : ℕ} {old new : List ℕ} (bit next : ℕ) → Scrambles state n old new register
    → bit ≡ byte (output (cells register)) → next ≡ register / 2 + bit * 2 ^ 14 → Scrambles state (n + 1) old (set new n (bit_xor (get_or new n 0) bit)) next
unfolding after
scrambles_more {state} {n} {register} {old} bit next s b e =
    let row = cells state in
    let done = mixed (sequence n row) old in
    let at = get_or done n 0 in
    let added : bit_xor at bit ≡ byte (output (after n row)) ⊕ at = ⊕-is at bit ∙ ⊕_comm at bit ∙ ap (λ (x : ℕ). x ⊕ at) (b ∙ ap (λ (l : List Bool). byte (output l)) (come_to s)) in
    record {
      bytes = rw add-one (ap (λ (l : List ℕ). set l n (bit_xor (get_or l n 0) bit)) s.bytes ∙ ap (set done n) added ∙ mixed_more n row old);
      runs_on =
          e ∙ ap (λ (x : ℕ). register / 2 + x * 2 ^ 14) b ∙ shifted-word register (small s) ∙ ap number (ap shifted (come_to s) ∙ sym (after-add n 1 row));
    }

-- ---- the next part of a buffer
mixed_part : (n : ℕ) (row : List Bool) (bytes : List ℕ) → mixed (sequence n row) (take n bytes) ++ drop n bytes ≡ mixed (sequence n row) bytes
unfolding mixed sequence
mixed_part zero row bytes = refl
mixed_part (suc n) row [] = refl
mixed_part (suc n) row (x ∷ bytes) = ap (λ (l : List ℕ). (byte (output row) ⊕ x) ∷ l) (mixed_part n (shifted row) bytes)

mixed_add : (m n : ℕ) (row : List Bool) (bytes : List ℕ)
    → take m (mixed (sequence m row) bytes) ++ mixed (sequence n (after m row)) (drop m (mixed (sequence m row) bytes)) ≡ mixed (sequence (m + n) row) bytes
unfolding after mixed sequence
mixed_add zero n row bytes = rw zero-add
mixed_add (suc m) zero row [] = rw suc-add
mixed_add (suc m) (suc n) row [] = rw suc-add
mixed_add (suc m) n row (x ∷ bytes) = rw suc-add (ap (λ (l : List ℕ). (byte (output row) ⊕ x) ∷ l) (mixed_add m n (shifted row) bytes))

-- the k bytes behind the m that are scrambled
pub scrambles_part : {state m register n next k end : ℕ} {old out part : List ℕ} → Scrambles state m old out register
    → Scrambles register n (take k (drop m out)) part next → k ≡ n → m + n ≡ end → Scrambles state end old (put_mid m k out part) next
scrambles_part {state} {m} {register} {n} {next} {k} {end} {old} {out} {part} s t e f =
    let row = cells state in
    let key : List Bool → List Bool = sequence n in
    let behind = drop m out in
    let added : part ++ drop n behind ≡ mixed (key (after m row)) behind =
    ap (λ (l : List ℕ). l ++ drop n behind) (t.bytes ∙ ap₂ (λ (r : List Bool) (j : ℕ). mixed (key r) (take j behind)) (come_to s) e) ∙ mixed_part n (after m row) behind in
    rw (e, ← f) record {
      bytes = rw added (ap (λ (l : List ℕ). take m l ++ mixed (key (after m row)) (drop m l)) s.bytes ∙ mixed_add m n row old);
      runs_on = t.runs_on ∙ ap number (ap (after n) (come_to s) ∙ sym (after-add m n row));
    }
