-- The scratch is long enough for any block, and what is coded is the block of the link's row. Assumes nothing.
use Rattle.std.proofs.Common.{◌≤◌, length, ◌∙◌, sym, ap, arith}
use lib.Seq.{length-take-le}
use Rattle.lists.proofs.Over.{over-all}
use Rattle.links.proofs.Facts.{sizes}
use Rattle.turbo.proofs.Interleaved.{length-interleaved}
use Rattle.images.proofs.Composed.{coded_lem, length-coded_bytes}
use Rattle.images.proofs.lay_coded.Goals.{After-cleared-scratch}
use Rattle.images.proofs.lay_coded.Goals as goal

enough : (c : After-cleared-scratch) → length c.args.block.bits.now ≤ length c.cleared-scratch.result
enough c =
    let b = c.args.block in
    omega (arith, b.whole, (sizes b.link.row b.link.good).block)

pub slice_bounds-scratch-end : goal.slice_bounds-scratch-end
slice_bounds-scratch-end c = enough c

pub slice_bounds-v-end : goal.slice_bounds-v-end
slice_bounds-v-end c = sym (length-take-le _ _ (enough (goal.at.slice_bounds-v-end c).After-cleared-scratch))

pub interleave-requires : goal.interleave-requires
interleave-requires c = length-take-le _ _ (enough (goal.at.interleave-requires c).After-cleared-scratch) ∙ c.args.block.whole

pub invariant_of-encode : goal.invariant_of-encode
invariant_of-encode c =
    let b = c.args.block in
    record { same = b.whole ∙ sym (ap length c.interleave.ensures ∙ length-interleaved b.link.row b.bits.now) }

pub encode-requires : goal.encode-requires
encode-requires c =
    let b = c.args.block in
    rw (coded_lem b.link.row b.bits.now c.flags.ensures c.interleave.ensures) (omega (arith, length-coded_bytes b.link.row b.bits.now b.link.good b.whole, c.requires))

pub returns : goal.returns
returns c =
    let b = c.args.block in
    let laid = rw (coded_lem b.link.row b.bits.now c.flags.ensures c.interleave.ensures) at c.encode.ensures in
    laid.1 ∙ over-all _ c.args.out.now (length-coded_bytes b.link.row b.bits.now b.link.good b.whole ∙ sym c.requires)
