-- Bits laid over those of a datagram: piece by piece, by whole bytes, and within one byte.
-- Assumes nothing.
use mathlib.Core.Path.{◌≡◌, refl, sym, ap, ap₂, ◌∙◌}
use mathlib.Core.Bool.{Bool, true}
use mathlib.Core.List.{List, [], ◌∷◌, ◌++◌}
use Prim.Native.Nat.{ℕ, zero, suc, ◌+◌, ◌*◌, ◌≤◌, ◌<◌}
use native.Mathlib.Nat.{zero-add}
use native.Mathlib.Omega.{arith}
use borrow.Author.Tests.{lt-ltb}
use lib.Dec.{ltb}
use lib.ListN.{length, get_or, set, take, drop, length-set}
use lib.Seq.{length-take-le}
use Rattle.lists.specs.Every.{every}
use Rattle.lists.specs.Over.{over}
use Rattle.lists.proofs.Every.{each-every}
use Rattle.lists.proofs.Over.{over-nil, over-set, over-length, over-over, over_first, over-second, over-every}
use Rattle.bits.specs.Row.{high_first}
use Rattle.bits.specs.Datagram.{all_bytes, bits_of, as_bytes}
use Rattle.datagrams.specs.Working.Packed.{packed_over}
use Rattle.bits.proofs.Datagram.{length-bits_of, bits_of-append, take-bits_of, drop-bits_of, length-as_bytes, as_bytes-take, as_bytes_small, as_bytes-bits_of, bits_of-as_bytes}
use Rattle.bits.proofs.Row.{length-high_first}

-- what a buffer of bytes is known to hold
pub bytes-known : (l : List ℕ) → ((i : ℕ) → get_or l i 0 < 256) → all_bytes l ≡ true
bytes-known l known = each-every (λ x. ltb x 256) 0 l (λ i h. lt-ltb (get_or l i 0) 256 (known i))

-- what is as long, and holds those bits
packed_is : (at : ℕ) (bits : List Bool) (old new : List ℕ) → all_bytes new ≡ true → length new ≡ length old → bits_of new ≡ over at bits (bits_of old)
    → new ≡ packed_over at bits old
unfolding packed_over
packed_is at bits old new bytes long e = sym (as_bytes-bits_of new bytes) ∙ ap₂ as_bytes long e

-- ---- piece by piece
length-packed_over : (at : ℕ) (bits : List Bool) (old : List ℕ) → length (packed_over at bits old) ≡ length old
unfolding packed_over
length-packed_over at bits old = length-as_bytes (length old) (over at bits (bits_of old))

-- no bits laid change nothing
pub packed_none : (at : ℕ) (bits : List Bool) (old : List ℕ) → all_bytes old ≡ true → length bits ≤ 0 → old ≡ packed_over at bits old
packed_none at [] old bytes h = packed_is at [] old old bytes refl (sym (over-nil at (bits_of old)))
packed_none at (b ∷ bits) old bytes h = absurd (omega arith)

packed_bits : (at : ℕ) (bits : List Bool) (old : List ℕ) → at + length bits ≤ length old * 8 → bits_of (packed_over at bits old) ≡ over at bits (bits_of old)
unfolding packed_over
packed_bits at bits old h =
    bits_of-as_bytes (length old) (over at bits (bits_of old)) (over-length at bits (bits_of old) (omega (arith, length-bits_of old)) ∙ length-bits_of old)

-- one piece after another is both as one
pub packed_packed : (at : ℕ) (p q : List Bool) (old : List ℕ) → at + length p ≤ length old * 8
    → packed_over (at + length p) q (packed_over at p old) ≡ packed_over at (p ++ q) old
unfolding packed_over
packed_packed at p q old h =
    ap₂ as_bytes (length-packed_over at p old) (ap (over (at + length p) q) (packed_bits at p old h) ∙ over-over at p q (bits_of old) (omega (arith, length-bits_of old)))

-- ---- by whole bytes
pub bits_of-over : (j : ℕ) (p old : List ℕ) → bits_of (over j p old) ≡ over (j * 8) (bits_of p) (bits_of old)
unfolding over
bits_of-over j p old =
    let place : (j + length p) * 8 ≡ j * 8 + length (bits_of p) = omega (arith, length-bits_of p) in
    bits_of-append (take j old ++ p) (drop (j + length p) old)
    ∙ ap₂ ◌++◌ (bits_of-append (take j old) p ∙ ap (λ (l : List Bool). l ++ bits_of p) (sym (take-bits_of j old)))
    (sym (drop-bits_of (j + length p) old) ∙ ap (λ (k : ℕ). drop k (bits_of old)) place)

pub packed_bytes : (j m : ℕ) (bits : List Bool) (old : List ℕ) → all_bytes old ≡ true → m * 8 ≤ length bits → j + m ≤ length old
    → packed_over (j * 8) (take (m * 8) bits) old ≡ over j (as_bytes m bits) old
packed_bytes j m bits old bytes long h =
    let back = ap bits_of (sym (as_bytes-take m bits)) ∙ bits_of-as_bytes m (take (m * 8) bits) (length-take-le (m * 8) bits long) in
    sym
    (packed_is (j * 8) (take (m * 8) bits) old (over j (as_bytes m bits) old) (over-every _ j (as_bytes m bits) old (as_bytes_small m bits) bytes)
    (over-length j (as_bytes m bits) old (simp length-as_bytes h))
    (bits_of-over j (as_bytes m bits) old ∙ ap (λ (l : List Bool). over (j * 8) l (bits_of old)) back))

-- ---- within one byte
-- the bytes with one of them exchanged for one that has the bits laid over its own
bits-set : (j from new : ℕ) (bits : List Bool) (old : List ℕ) → j < length old → from + length bits ≤ 8
    → high_first 8 new ≡ over from bits (high_first 8 (get_or old j 0)) → bits_of (set old j new) ≡ over (j * 8 + from) bits (bits_of old)
unfolding bits_of
bits-set j from new bits [] h l e = absurd (omega arith)
bits-set zero from new bits (x ∷ old) h l e =
    rw zero-add (ap (λ (b : List Bool). b ++ bits_of old) e ∙ sym (over_first from bits (high_first 8 x) (bits_of old) (omega (arith, length-high_first 8 x))))
bits-set (suc j) from new bits (x ∷ old) h l e =
    let place : suc j * 8 + from ≡ length (high_first 8 x) + (j * 8 + from) = omega (arith, length-high_first 8 x) in
    rw place (ap (λ (b : List Bool). high_first 8 x ++ b) (bits-set j from new bits old (omega arith) l e) ∙ sym (over-second (j * 8 + from) bits (high_first 8 x) (bits_of old)))

pub packed_part : (j from new : ℕ) (bits : List Bool) (old : List ℕ) → all_bytes old ≡ true → new < 256 → j < length old → from + length bits ≤ 8
    → high_first 8 new ≡ over from bits (high_first 8 (get_or old j 0)) → set old j new ≡ packed_over (j * 8 + from) bits old
packed_part j from new bits old bytes small h l e =
    packed_is (j * 8 + from) bits old (set old j new) (rw (over-set j new old h) (over-every _ j (new ∷ []) old (unfold every in rw (lt-ltb new 256 small)) bytes)) (length-set old j new)
    (bits-set j from new bits old h l e)
