-- How long the sequence is, and a scrambled row.
-- Assumes nothing.
use mathlib.Core.Path.{◌≡◌, refl, sym, ap}
use mathlib.Core.Bool.{Bool}
use mathlib.Core.List.{List}
use Prim.Native.Nat.{ℕ, zero, suc}
use native.Mathlib.Nat.{le_of_eq}
use lib.ListN.{length}
use Rattle.bits.proofs.XorRows.{length-xor_rows}
use Rattle.scrambler.specs.Scrambler.{shifted, sequence, scrambled_by}

pub length-sequence : (n : ℕ) (cells : List Bool) → length (sequence n cells) ≡ n
unfolding sequence
length-sequence zero cells = refl
length-sequence (suc n) cells = ap suc (length-sequence n (shifted cells))

pub length-scrambled_by : (cells row : List Bool) → length (scrambled_by cells row) ≡ length row
length-scrambled_by cells row = length-xor_rows (sequence (length row) cells) row (le_of_eq (sym (length-sequence (length row) cells)))
