-- What came, unscrambled, is bits again, and its X are the k bits. Assumes nothing.
use Rattle.std.proofs.Common.{◌≡◌, Bool, true, List, [], ℕ, length, map, append-nil, sym, ap, ◌∙◌}
use Rattle.std.proofs.Math.ListN.{length-map}
use Rattle.bits.specs.Bits.{is_one, byte, all_bits}
use Rattle.bits.proofs.Bits.{bits-bytes, bytes_bits}
use Rattle.distance.specs.Working.Coding.{x_bits}
use Rattle.turbo.specs.Working.Parity.{counts_of}
use Rattle.scrambler.specs.Scrambler.{cells, loading_word, scrambled, scrambled_by}
use Rattle.scrambler.specs.Working.Scrambles.{Scrambles}
use Rattle.scrambler.proofs.Calls.{scrambles_row}
use Rattle.blocks.proofs.Received.{received_x}
use Rattle.received.proofs.receive.Goals as goal

-- bytes that are bits, scrambled by a fresh register
unscrambled : (came plain : List ℕ) (state register : ℕ) → all_bits came ≡ true → state ≡ loading_word → Scrambles state (length came) came plain register
    → map is_one plain ≡ scrambled (map is_one came)
unscrambled came plain state register bits load s =
    let row = map is_one came in
    let out : plain ≡ map byte (scrambled_by (cells state) row) = scrambles_row s row [] (sym (append-nil _ ∙ bytes_bits came bits)) (length-map came is_one) ∙ append-nil _ in
    ap (map is_one) out ∙ bits-bytes (scrambled_by (cells state) row) ∙ ap (λ (w : ℕ). scrambled_by (cells w) row) load

pub returns : goal.returns
returns c =
    let came = c.args.came in
    let out = unscrambled came.bits.now c.scramble.new.out _ _ came.all (cc) (rw c.copy_from_slice.ensures.after at c.scramble.ensures) in
    c.take_x.ensures ∙ ap (λ (row : List Bool). x_bits (counts_of came.link.row) row) out ∙ sym (received_x came.link.row (map is_one came.bits.now))
