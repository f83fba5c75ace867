-- The image of a block: its coded bits, and then the scrambler over them.
-- Assumes nothing.
use mathlib.Core.Path.{◌≡◌, sym, ap, ◌∙◌}
use mathlib.Core.Bool.{Bool}
use mathlib.Core.List.{List, [], append-nil, map}
use Prim.Native.Nat.{ℕ}
use lib.Dec.{T}
use lib.ListN.{length, length-map}
use Rattle.bits.specs.Bits.{byte}
use Rattle.links.specs.declared.Row.{Row}
use Rattle.links.specs.Patterns.{pattern_of, tail_of}
use Rattle.links.specs.Sizes.{image_length}
use Rattle.links.specs.Working.Good.{good_row}
use Rattle.turbo.specs.Encoder.{start}
use Rattle.turbo.specs.Interleaver.{interleaved}
use Rattle.turbo.specs.Coded.{coded_from, coded}
use Rattle.turbo.proofs.Lengths.{length-coded}
use Rattle.scrambler.specs.Scrambler.{loading_word}
use Rattle.scrambler.specs.Working.Scrambles.{Scrambles}
use Rattle.scrambler.proofs.Calls.{scrambles_row}
use Rattle.blocks.specs.Block.{image_of}

module _ (row : Row) (u : List Bool) where
  -- what is handed to the encoder is the row's
  pub coded_lem : {pattern tail : List (List ℕ)} {v : List Bool} → (pattern ≡ pattern_of row.pattern) × (tail ≡ tail_of row.tail) → v ≡ interleaved row u
      → coded_from pattern tail 0 start start u v ≡ coded row u
  unfolding coded
  coded_lem flags taken = rw (flags.0, flags.1, taken)

  pub length-coded_bytes : T (good_row row) → length u ≡ row.k → length (map byte (coded row u)) ≡ image_length row
  length-coded_bytes good long = length-map (coded row u) byte ∙ length-coded row good u long

  -- a fresh register runs over all of the coded bits
  pub image_composed : {laid new : List ℕ} {state register : ℕ} → laid ≡ map byte (coded row u) → state ≡ loading_word → Scrambles state (length laid) laid new register
      → new ≡ map byte (image_of row u)
  unfolding image_of
  image_composed {laid} e loads s =
      let long : length (coded row u) ≡ length laid = sym (ap length e ∙ length-map (coded row u) byte) in
      rw (loads, append-nil) at (scrambles_row s (coded row u) [] (e ∙ sym (append-nil (map byte (coded row u)))) long)
