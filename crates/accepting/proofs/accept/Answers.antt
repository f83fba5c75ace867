-- The count is no more than the bits of both images; the datagram is packed where the block is accepted. Assumes nothing.
use Rattle.std.proofs.Common.{◌≡◌, ◌+◌, ◌≤◌, [], Fits, w8, arith, get_or, length, map, map-id, rules}
use Rattle.std.proofs.lemmas.List.{length-map}
use Rattle.bits.specs.Bits.{is_one}
use Rattle.bits.specs.Row.{differences}
use Rattle.bits.proofs.Differences.{differences_comm, differences_triangle}
use Rattle.datagrams.proofs.Packed.{bytes-known}
use Rattle.links.proofs.Facts.{sizes}
use Rattle.blocks.specs.Block.{image_of}
use Rattle.blocks.proofs.Blocks.{length-datagram}
use Rattle.blocks.proofs.Sound.{length-image}
use Rattle.accepting.specs.Working.Within.{within}
use Rattle.accepting.proofs.Packed.{datagram_packed}
use Rattle.accepting.proofs.accept.Goals as goal

pub overflow_cast-result-2 : goal.overflow_cast-result-2
unfolding differences
overflow_cast-result-2 g c =
    let row = c.args.came.link.row in
    let good = c.args.came.link.good in
    let image = image_of row c.args.u.now in
    let bits = map is_one c.args.came.bits.now in
    let count : c.in_ok-wrong.wrong ≡ differences image bits = grind arith in
    let both : differences image bits ≤ length image + length bits = omega (arith, differences_triangle image [] bits, differences_comm image []) in
    record { fits = omega (arith, length-map c.args.came.bits.now is_one, length-image row good c.args.u.now c.requires.0, (sizes row good).image) }

pub returns-clause-answers : goal.returns-clause-answers
unfolding within
returns-clause-answers g c number =
    let bytes = bytes-known c.args.out.now (λ i. let byte : Fits w8 (get_or c.args.out.now i 0) = search rules in byte.fits) in
    grind (arith, sizes, datagram_packed, length-datagram, map-id)
