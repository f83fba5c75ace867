-- The bytes of a message, one by one, three pieces laid one behind the other, and how many zeros there are.
-- Assumes nothing.
use mathlib.Core.Path.{◌≡◌, refl, ap, ◌∙◌}
use mathlib.Core.List.{List, ◌∷◌, ◌++◌}
use Prim.Native.Nat.{ℕ, ◌+◌, ◌/◌, ◌%◌, ◌≤◌}
use native.Mathlib.Nat.{div-one}
use native.Mathlib.Omega.{arith}
use lib.ListN.{length, replicate, length-replicate, length-append}
use Rattle.lists.specs.Over.{over}
use Rattle.lists.proofs.Over.{over-over}
use Rattle.message_writer.specs.Message.{high_byte_first, total_of, message_of}

pub length-zeros : (n : ℕ) → length (replicate {A = ℕ} n 0) ≡ n
length-zeros n = length-replicate n 0

module _ (type source : ℕ) (body : List ℕ) where
  pub message-bytes : message_of type source body
      ≡ type ∷ total_of body / 256 % 256 ∷ total_of body % 256 ∷ source / 16777216 % 256 ∷ source / 65536 % 256 ∷ source / 256 % 256 ∷ source % 256 ∷ body
  unfolding message_of high_byte_first
  message-bytes = simp div-one refl

  pub length-message : length (message_of type source body) ≡ total_of body
  length-message = ap length message-bytes ∙ omega arith

-- three pieces, each laid where the last one ends, are laid as one
pub three_laid : (at : ℕ) (p q r old : List ℕ) → at + (length p + length q + length r) ≤ length old
    → over (at + length p + length q) r (over (at + length p) q (over at p old)) ≡ over at (p ++ q ++ r) old
three_laid at p q r old h =
    let place : at + length p + length q ≡ at + length (p ++ q) = omega (arith, length-append p q) in
    rw (over-over at p q old (omega arith), place) (over-over at (p ++ q) r old (omega (arith, length-append p q)))
