-- The count so far, against what is left of what came and of the symbols.
use Rattle.std.proofs.Common.{◌≡◌}
use Rattle.std.specs.Array.Iter.{array_into_iter_items}
use Rattle.std.specs.Slice.Iter.{chunks_exact_rest, chunks_exact_size}
use Rattle.std.specs.Iterator.Adapters.{zip_first, zip_second}
use Rattle.slots.proofs.Symbols.{Compared}
use Rattle.slots.proofs.training.wrong.Given as goal

abbrev pub invariant-loop-pair : goal.invariant-loop-pair
invariant-loop-pair l =
    let pairs = zip_first l.pair-iterator in
    (chunks_exact_size pairs ≡ 2)
    × Compared l.came (array_into_iter_items (zip_second l.pair-iterator)) (chunks_exact_rest pairs) l.count
