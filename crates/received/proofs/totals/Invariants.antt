-- Those before clock c are laid.
use Rattle.std.proofs.Common.{◌≡◌, ℕ, ◌<◌, length, slice_index, slice_index_or, []}
use Rattle.links.specs.Patterns.{total}
use Rattle.links.specs.Working.Clocks.{clocks_of}
use Rattle.received.proofs.totals.Given as goal

abbrev pub invariant-loop-c : goal.invariant-loop-c
invariant-loop-c l = (length l.totals ≡ 10) × ((c : ℕ) → c < l.c → slice_index l.totals c ≡ total (slice_index_or (clocks_of l.fn.flags) c []))
