-- Byte by byte: what is left to lay at i are the bytes from i on.
use mathlib.Core.Path.{◌≡◌}
use Prim.Native.Nat.{◌+◌, ◌≤◌}
use lib.ListN.{length, drop}
use Rattle.lists.specs.Working.Laying.{Laying}
use Rattle.bits.proofs.lay_bytes.Given as goal

abbrev pub invariant-loop-i : goal.invariant-loop-i
invariant-loop-i l = (l.i ≤ l.i-end) × (l.i-end ≡ length l.bytes) × Laying l.initial.out l.at l.bytes l.out (l.at + l.i) (drop l.i l.bytes)
