-- A datagram's bits from any bit on, a few at a time.
-- Assumes nothing.
use mathlib.Core.Path.{◌≡◌, sym, ap, ap₂, ◌∙◌}
use mathlib.Core.Bool.{Bool, false}
use mathlib.Core.List.{List, [], ◌∷◌, ◌++◌, map, map-append, append-nil}
use Prim.Native.Nat.{ℕ, ◌+◌, ◌-◌, ◌*◌, ◌/◌, ◌%◌, ◌^◌, ◌≤◌, ◌<◌}
use native.Mathlib.Nat.{add-zero}
use native.Mathlib.Omega.{arith}
use lib.ListN.{length, get_or, take, drop, replicate, length-map, drop_of_length-le, replicate-append-replicate}
use borrow.Rule.Slice.PartMut.{put_mid}
use lib.Seq.{drop-drop, get_or-drop}
use Rattle.std.proofs.lemmas.Slice.{take-put_mid}
use Rattle.bits.specs.Row.{high_first}
use Rattle.bits.specs.Datagram.{bits_of, filled}
use Rattle.bits.proofs.Datagram.{drop-bits_of}
use Rattle.bits.proofs.Filled.{filled-nil, filled-append, filled-rest, filled_parts, take-filled}
use Rattle.bits.proofs.Row.{length-high_first, take-high_first, drop-high_first, high_first_two}

-- ---- the bits that two bytes hold
first_byte : (n : ℕ) (datagram : List ℕ) → filled (8 + n) (bits_of datagram) ≡ high_first 8 (get_or datagram 0 0) ++ filled n (bits_of (drop 1 datagram))
unfolding bits_of high_first
first_byte n [] = filled-nil (8 + n) ∙ sym (replicate-append-replicate 8 n false) ∙ ap (λ (l : List Bool). replicate 8 false ++ l) (sym (filled-nil n))
first_byte n (b ∷ datagram) = rw (length-high_first 8 b) at (filled-append n (high_first 8 b) (bits_of datagram))

two_bytes : (datagram : List ℕ) → filled 16 (bits_of datagram) ≡ high_first 8 (get_or datagram 0 0) ++ high_first 8 (get_or (drop 1 datagram) 0 0)
unfolding filled
two_bytes datagram =
    first_byte 8 datagram
    ∙ ap (λ (l : List Bool). high_first 8 (get_or datagram 0 0) ++ l) (first_byte 0 (drop 1 datagram) ∙ append-nil (high_first 8 (get_or (drop 1 datagram) 0 0)))

module _ (datagram : List ℕ) (i : ℕ) (small : get_or datagram (i / 8 + 1) 0 < 256) where
  -- the byte with bit i and the next one, as a number of sixteen digits
  abbrev word : ℕ
  word = get_or datagram (i / 8) 0 * 256 + get_or datagram (i / 8 + 1) 0

  word_bits_lem : filled 16 (drop (i / 8 * 8) (bits_of datagram)) ≡ high_first 16 word
  word_bits_lem =
      let rest = drop (i / 8) datagram in
      let high : get_or rest 0 0 ≡ get_or datagram (i / 8) 0 = rw add-zero at (get_or-drop (i / 8) datagram 0 0) in
      let low : get_or (drop 1 rest) 0 0 ≡ get_or datagram (i / 8 + 1) 0 = get_or-drop 1 rest 0 0 ∙ get_or-drop (i / 8) datagram 1 0 in
      ap (filled 16) (drop-bits_of (i / 8) datagram)
      ∙ two_bytes rest
      ∙ ap₂ (λ (a b : ℕ). high_first 8 a ++ high_first 8 b) high low
      ∙ sym (high_first_two 8 8 (get_or datagram (i / 8) 0) (get_or datagram (i / 8 + 1) 0) small)

  -- up to eight bits from bit i on, as code picks them
  pub bits_picked : (count : ℕ) → count ≤ 8 → high_first count (word / 2 ^ (16 - (i % 8 + count))) ≡ filled count (drop i (bits_of datagram))
  bits_picked count h =
      let bits = bits_of datagram in
      let s = i % 8 in
      let behind = 16 - (s + count) in
      let all : 16 ≡ s + (count + behind) = omega arith in
      let place : i / 8 * 8 + s ≡ i = omega arith in
      sym (take-high_first count behind word)
      ∙ ap (take count) (sym (drop-high_first s (count + behind) word))
      ∙ ap (λ (l : List Bool). take count (drop s l)) (ap (λ (n : ℕ). high_first n word) (sym all) ∙ sym word_bits_lem)
      ∙ ap (take count) (filled-rest s 16 (drop (i / 8 * 8) bits) ∙ ap (filled (16 - s)) (drop-drop s (i / 8 * 8) bits ∙ ap (λ (k : ℕ). drop k bits) place))
      ∙ take-filled count (16 - s) (drop i bits) (omega arith)

-- ---- a row laid some cells at a time, where each cell holds a bit
module _ {A : Type 0} (holding : Bool → A) (bits : List Bool) (from at n word : ℕ) (row part : List A)
    (e : part ≡ map holding (high_first n word)) (is : high_first n word ≡ filled n (drop (from + at) bits)) (laid : take at row ≡ map holding (filled at (drop from bits))) where
  -- those that are laid, and the part that holds the bits behind them
  joined : take at row ++ part ≡ map holding (filled (at + n) (drop from bits))
  joined =
      ap₂ ◌++◌ laid (e ∙ ap (map holding) (is ∙ ap (filled n) (sym (drop-drop at from bits))))
      ∙ sym (ap (map holding) (filled_parts at n (drop from bits)) ∙ map-append holding (filled at (drop from bits)) (filled n (drop at (drop from bits))))

  length_part : length part ≡ n
  length_part = ap length e ∙ length-map (high_first n word) holding ∙ length-high_first n word

  pub cells_more : (m : ℕ) → at ≤ length row → take (at + n) (put_mid at m row part) ≡ map holding (filled (at + n) (drop from bits))
  cells_more m room = take-put_mid at m row part (at + n) (omega (arith, length_part)) room ∙ joined

  -- the row ends with the part
  pub cells-done : (m : ℕ) → length row ≤ at + m → at + n ≡ length row → put_mid at m row part ≡ map holding (filled (length row) (drop from bits))
  cells-done m ends all =
      ap (λ l. take at row ++ (part ++ l)) (drop-drop m at row ∙ drop_of_length-le row ends) ∙ ap (λ l. take at row ++ l) (append-nil part)
      ∙ joined ∙ ap (λ k. map holding (filled k (drop from bits))) all
