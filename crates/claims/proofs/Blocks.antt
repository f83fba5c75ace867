-- What is shown of blocks, from the laws of the crate `blocks`.
-- Assumes nothing.
use mathlib.Core.Path.{◌≡◌, refl, sym, ap, ◌∙◌}
use mathlib.Core.Logic.{◌↔◌}
use mathlib.Core.Bool.{Bool, true, false, not, true≢false}
use mathlib.Core.List.{List, map}
use Prim.Native.Nat.{ℕ, ◌+◌, ◌<◌, ◌≤◌}
use native.Mathlib.Omega.{arith}
use lib.Dec.{T}
use lib.ListN.{length, get_or, take, drop, length-map}
use lib.Seq.{get_or-take, get_or-drop}
use Rattle.answers.specs.declared.Written.{Written}
use Rattle.answers.specs.Numbers.{done, wrong_length, not_offered, no_room, no_bit, no_block}
use Rattle.answers.proofs.Wrote.{told}
use Rattle.lists.proofs.Every.{every-place}
use Rattle.bits.specs.Bits.{is_one, byte, all_zero}
use Rattle.bits.specs.Row.{differences, flip}
use Rattle.bits.specs.Datagram.{all_bytes}
use Rattle.bits.proofs.Bits.{bits-bytes, all_bits-map}
use Rattle.bits.proofs.Differences.{differences_self}
use Rattle.bits.proofs.Flip.{differences-flip, length-flip}
use Rattle.links.specs.Working.Good.{good_row}
use Rattle.links.specs.Rows.{rows, place_in, offered, row_of}
use Rattle.links.specs.Sizes.{bytes_held, image_length}
use Rattle.links.proofs.Good.{good}
use Rattle.blocks.specs.declared.Block.{Block}
use Rattle.blocks.specs.Block.{block_of, image_of, datagram_of, zero_filled}
use Rattle.blocks.specs.Near.{Valid, Near}
use Rattle.blocks.specs.Calls.{block_task, read_block, refused as refusal, reading}
use Rattle.blocks.proofs.Answered.{near_answered, near_itself, near_flipped}
use Rattle.blocks.proofs.Blocks.{length-datagram, datagram-bytes, long-image, block-valid, datagram-in-block, valid-block}
use Rattle.blocks.proofs.Valid.{valid-over}
use Rattle.blocks.proofs.WaysOfReading as r
use Rattle.claims.specs.Calls.{WroteBlock, ReadBlock, BlockAnswer}
use Rattle.claims.proofs.Tasks.{Met, met, done-met}
use Rattle.claims.proofs.Endings.{Kind, Ends, refuses, answers, laid_in, refused-with, given_in}

-- ---- reading ends in two ways: a refusal, or the datagram of a block that is near
abbrev pub readers : (link : ℕ) (bits : List ℕ) → Kind Block ((u : List Bool) × Near (row_of link) (map is_one bits) u)
readers link bits = record {
  status = λ answer. answer.status;
  count = λ answer. answer.count;
  refused = λ number. (refusal number).answer;
  given = λ near. reading (datagram_of (row_of link) near.0) (differences (image_of (row_of link) near.0) (map is_one bits));
  numbered = λ number. refl;
  uncounted = λ number. refl;
  is-done = λ near. refl;
  counts = λ near. refl;
}

pub ends : (link : ℕ) (bits : List ℕ) (room : ℕ) → Ends (readers link bits) (read_block link bits room)
ends link bits room = goes (r.reading-goes link bits room)
  where
    goes : r.Reading link bits room → Ends (readers link bits) (read_block link bits room)
    goes (r.unoffered o e) = refuses not_offered (λ z. omega (arith, z)) e
    goes (r.no_length o s e) = refuses wrong_length (λ z. omega (arith, z)) e
    goes (r.too_short o s h e) = refuses no_room (λ z. omega (arith, z)) e
    goes (r.no_bits o s h a e) = refuses no_bit (λ z. omega (arith, z)) e
    goes (r.none_near o s h a f e) = refuses no_block (λ z. omega (arith, z)) e
    goes (r.reads o s h a u n e) = answers (u, n) e

-- ---- what an outcome says of the answer
module _ (link : ℕ) (bits old new : List ℕ) (answer : Block) (wr : ReadBlock link bits old new answer) where
  answers_with : (datagram : List ℕ) (wrong : ℕ) → read_block link bits (length old) ≡ reading datagram wrong → BlockAnswer datagram wrong old new answer
  answers_with datagram wrong e =
      record { status = told wr (λ (b : Block). b.status) e; laid = laid_in (ends link bits (length old)) wr e; wrongs = told wr (λ (b : Block). b.wrong) e }

  pub refused : (answer.status ≡ done → ⊥) → (answer.count ≡ 0) × (answer.wrong ≡ 0) × (new ≡ old)
  refused z =
      let r = refused-with (ends link bits (length old)) wr z in
      (ap (λ (b : Block). b.count) r.1, ap (λ (b : Block). b.wrong) r.1, r.2)

  -- an answer 0 is given only where a block is near, and for that block
  near_of : answer.status ≡ done → (u : List Bool) × Near (row_of link) (map is_one bits) u
  near_of z = (given_in (ends link bits (length old)) wr z).0

  pub full : answer.status ≡ done → answer.count ≡ bytes_held (row_of link)
  full z =
      let near = given_in (ends link bits (length old)) wr z in
      told wr (λ (b : Block). b.count) near.1 ∙ length-datagram (row_of link) near.0.0

-- ---- reading is exact
module _ (link : ℕ) (o : offered link ≡ true) (came : List Bool) (size : length came ≡ image_length (row_of link)) (old new : List ℕ) (answer : Block)
    (room : bytes_held (row_of link) ≤ length old) (wr : ReadBlock link (map byte came) old new answer) where
  pub answered : (u : List Bool) → Near (row_of link) came u → BlockAnswer (datagram_of (row_of link) u) (differences (image_of (row_of link) u) came) old new answer
  answered u n = answers_with link (map byte came) old new answer wr _ _ (near_answered link o came size (length old) room u n)

  pub exact : (answer.status ≡ done) ↔ ((u : List Bool) × Near (row_of link) came u)
  exact = (
    λ z. let some = near_of link (map byte came) old new answer wr z in (some.0, rw (bits-bytes came) at some.1),
    λ some. (answered some.0 some.1).status,
  )

  pub none_near : (answer.status ≡ no_block) ↔ ((u : List Bool) → Near (row_of link) came u → ⊥)
  none_near = (λ e u n. omega (arith, e, (answered u n).status), λ far. goes far (r.reading-goes link (map byte came) (length old)))
    where
      long : length (map byte came) ≡ image_length (row_of link)
      long = length-map came byte ∙ size

      goes : ((u : List Bool) → Near (row_of link) came u → ⊥) → r.Reading link (map byte came) (length old) → answer.status ≡ no_block
      goes far (r.unoffered f e) = absurd (true≢false (sym o ∙ f))
      goes far (r.no_length t s e) = absurd (s long)
      goes far (r.too_short t s h e) = absurd (omega arith)
      goes far (r.no_bits t s h a e) = absurd (true≢false (sym (all_bits-map came) ∙ a))
      goes far (r.none_near t s h a f e) = told wr (λ (b : Block). b.status) e
      goes far (r.reads t s h a u n e) = absurd (far u (rw (bits-bytes came) at n))

-- ---- what was written
pub written : (link : ℕ) (datagram old new : List ℕ) (answer : Written) → offered link ≡ true → length datagram ≤ bytes_held (row_of link) → image_length (row_of link) ≤ length old
    → WroteBlock link datagram old new answer
    → (answer.status ≡ done) × (answer.count ≡ image_length (row_of link)) × (take answer.count new ≡ map byte (image_of (row_of link) (block_of (row_of link) datagram)))
written link datagram old new answer o h room wr =
    let m = met (block_task link datagram) old new answer wr o h room in
    (m.status, m.long ∙ long-image (row_of link) (good link o) datagram, m.bits)

-- ---- the way back: the block's image, as it was written or with one place inverted
module _ (link : ℕ) (datagram old new : List ℕ) (answer : Written) (bytes : all_bytes datagram ≡ true) (w : WroteBlock link datagram old new answer) (z : answer.status ≡ done)
    (old' new' : List ℕ) (answer' : Block) (room : bytes_held (row_of link) ≤ length old') where
  i : Met (block_task link datagram) new answer
  i = done-met (block_task link datagram) old new answer w z

  row-good : T (good_row (row_of link))
  row-good = good link i.offered

  u : List Bool
  u = block_of (row_of link) datagram

  right : Valid (row_of link) u
  unfolding u
  right = block-valid (row_of link) row-good datagram i.fits

  image-long : length (image_of (row_of link) u) ≡ image_length (row_of link)
  unfolding u
  image-long = sym (length-map (image_of (row_of link) u) byte) ∙ long-image (row_of link) row-good datagram

  filled : datagram_of (row_of link) u ≡ zero_filled (row_of link) datagram
  unfolding u
  filled = datagram-in-block (row_of link) row-good datagram i.fits bytes

  -- any row near which the block is answers its datagram
  comes_back : (came : List Bool) (wrong : ℕ) → length came ≡ image_length (row_of link) → Near (row_of link) came u → differences (image_of (row_of link) u) came ≡ wrong
      → ReadBlock link (map byte came) old' new' answer' → BlockAnswer (zero_filled (row_of link) datagram) wrong old' new' answer'
  comes_back came wrong size near counted wr =
      rw (← filled, ← counted) (answered link i.offered came size old' new' answer' room wr u near)

  pub back : ReadBlock link (take answer.count new) old' new' answer' → BlockAnswer (zero_filled (row_of link) datagram) 0 old' new' answer'
  unfolding u
  back wr =
      comes_back (image_of (row_of link) u) 0 image-long (near_itself (row_of link) row-good u right) (differences_self (image_of (row_of link) u)) (rw i.bits at wr)

  pub mended : (place : ℕ) → place < answer.count → ReadBlock link (map byte (flip place (map is_one (take answer.count new)))) old' new' answer'
      → BlockAnswer (zero_filled (row_of link) datagram) 1 old' new' answer'
  unfolding u
  mended place h wr =
      comes_back (flip place (image_of (row_of link) u)) 1 (length-flip place (image_of (row_of link) u) ∙ image-long)
      (near_flipped (row_of link) row-good u right place (omega (arith, i.long, length-map (image_of (row_of link) u) byte, image-long)))
      (differences-flip place (image_of (row_of link) u) (omega (arith, i.long, length-map (image_of (row_of link) u) byte)))
      (rw (i.bits, bits-bytes (image_of (row_of link) u)) at wr)

-- ---- the valid blocks are those that can be written
pub valid_written : (link : ℕ) → offered link ≡ true → (u : List Bool)
    → Valid (row_of link) u ↔ ((datagram : List ℕ) × (all_bytes datagram ≡ true) × (length datagram ≤ bytes_held (row_of link)) × (u ≡ block_of (row_of link) datagram))
valid_written link o u =
    let row = row_of link in (
      λ v. (datagram_of row u, datagram-bytes row u, omega (arith, length-datagram row u), valid-block row (good link o) u v),
      λ some. rw some.3 (block-valid row (good link o) some.0 some.2),
    )

-- ---- link 12's bits over
zero-at : (row : List Bool) (i : ℕ) → all_zero row ≡ true → get_or row i false ≡ false
unfolding all_zero
zero-at row i e = zero (get_or row i false) (every-place not false row (rw e tt) tt i)
  where
    zero : (b : Bool) → T (not b) → b ≡ false
    zero true t = absurd t
    zero false t = refl

pub over-12 : (u : List Bool) → Valid (row_of 12) u → (i : ℕ) → i < 4 → get_or u (936 + i) false ≡ false
unfolding rows place_in row_of
over-12 u v i h =
    sym (get_or-drop 936 (take 940 u) i false ∙ get_or-take 940 u (936 + i) false (omega arith)) ∙ zero-at (drop 936 (take 940 u)) i (valid-over (row_of 12) u v)
