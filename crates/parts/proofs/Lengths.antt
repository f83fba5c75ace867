-- A burst that is as long as no slot link's is refused by its head, or with 2: so two of them with one head are read alike.
-- Assumes nothing.
use mathlib.Core.Path.{◌≡◌, refl, sym, ap, ◌∙◌}
use mathlib.Core.Bool.{Bool, true, false, cond}
use mathlib.Core.List.{List}
use Prim.Native.Nat.{ℕ, ◌≤◌}
use native.Mathlib.Omega.{arith}
use lib.Dec.{eqb, leb, ltb}
use lib.ListN.{length, take, drop}
use lib.Seq.{take-take}
use borrow.Author.Tests.{eqb-true, eqb-false, le-ltb}
use Rattle.answers.specs.Numbers.{done, not_offered, wrong_length, no_bit, no_training, no_word}
use Rattle.bits.specs.Bits.{all_bits}
use Rattle.lists.proofs.Parts.{drop-take}
use Rattle.links.specs.Rows.{row_of}
use Rattle.links.specs.Sizes.{image_length}
use Rattle.blocks.proofs.Calls.{read_length}
use Rattle.words.specs.declared.Word.{Word}
use Rattle.words.specs.Calls.{read_word}
use Rattle.slots.specs.declared.head.Head.{Head}
use Rattle.slots.specs.Burst.{training_length, head_length, head_part, training_part, word_part, block_part, is_slot_link}
use Rattle.slots.specs.Head.{refused_head, wrong_in_training, named_head, read_head}
use Rattle.slots.specs.Calls.{refused, both, read_slot}
use Rattle.slots.proofs.Calls.{read-refused, read-joined}
use Rattle.slots.proofs.Links.{slot-offered}

-- the head is there, and what is behind it is as long as no slot link's image
pub record Off (burst : List ℕ) : Type 0 where
  pub long : head_length ≤ length burst
  pub none : (link : ℕ) → is_slot_link link ≡ true → length (block_part burst) ≡ image_length (row_of link) → ⊥

-- ---- a head that is read names a slot link
abbrev Slotted : Head → Type 0
Slotted head = head.status ≡ done → is_slot_link head.link ≡ true

by_cond : {A : Type 0} (P : A → Type 0) (b : Bool) {x y : A} → (b ≡ true → P x) → (b ≡ false → P y) → P (cond b x y)
by_cond P true t f = t refl
by_cond P false t f = f refl

refused-so : (number : ℕ) → (number ≡ done → ⊥) → Slotted (refused_head number)
refused-so number h e = absurd (h e)

named-slot : (word : Word) (wrong : ℕ) → Slotted (named_head word wrong)
unfolding named_head
named-slot word wrong =
    by_cond Slotted (eqb word.status done)
    (λ r. by_cond Slotted (is_slot_link word.number) (λ s e. s) (λ s. refused-so not_offered (λ z. omega (arith, z))))
    (λ r. refused-so no_word (λ z. omega (arith, z)))

head-slot : (burst : List ℕ) → Slotted (read_head burst)
unfolding read_head
head-slot burst =
    by_cond Slotted (ltb (length burst) head_length)
    (λ s. refused-so wrong_length (λ z. omega (arith, z)))
    (λ s. by_cond Slotted (all_bits (head_part burst))
    (λ a. by_cond Slotted (leb (wrong_in_training burst) 8) (λ t. named-slot (read_word (word_part burst)) (wrong_in_training burst)) (λ t. refused-so no_training (λ z. omega (arith, z))))
    (λ a. refused-so no_bit (λ z. omega (arith, z))))

-- ---- one head is read alike, whatever is behind it
module _ (a b : List ℕ) (same : head_part a ≡ head_part b) where
  same-training : training_part a ≡ training_part b
  same-training = sym (take-take training_length head_length a (omega arith)) ∙ ap (take training_length) same ∙ take-take training_length head_length b (omega arith)

  same_word : word_part a ≡ word_part b
  same_word = sym (drop-take training_length head_length a) ∙ ap (drop training_length) same ∙ drop-take training_length head_length b

  same_head : head_length ≤ length a → head_length ≤ length b → read_head a ≡ read_head b
  unfolding read_head
  same_head k l = rw (le-ltb (length a) head_length k, le-ltb (length b) head_length l, same, same-training, same_word)

-- ---- and so are bursts with one head that have no slot link's length
off_refused : (burst : List ℕ) (room : ℕ) → Off burst → (read_head burst).status ≡ done → read_slot burst room ≡ refused wrong_length
unfolding both
off_refused burst room off z =
    let slot = head-slot burst z in
    read-joined burst room z
    ∙ rw (read_length (read_head burst).link (block_part burst) room (slot-offered _ slot) (off.none _ slot))

pub off_alike : (a b : List ℕ) → head_part a ≡ head_part b → Off a → Off b → (room : ℕ) → read_slot a room ≡ read_slot b room
off_alike a b same off-a off-b room = decided (eqb (read_head a).status done) refl
  where
    head : read_head a ≡ read_head b
    head = same_head a b same off-a.long off-b.long

    decided : (read : Bool) → eqb (read_head a).status done ≡ read → read_slot a room ≡ read_slot b room
    decided true e =
        let z = eqb-true (read_head a).status done e in
        off_refused a room off-a z ∙ sym (off_refused b room off-b (rw head at z))
    decided false e =
        let z = eqb-false (read_head a).status done e in
        read-refused a room z ∙ rw head (sym (read-refused b room (rw head at z)))
