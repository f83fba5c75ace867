-- Where the bytes of a message stand in a datagram, a message of its length stands, with its type, source and body at their places.
-- Assumes nothing.
use mathlib.Core.Path.{◌≡◌, refl, sym, ap, ◌∙◌}
use mathlib.Core.Bool.{false}
use mathlib.Core.List.{List, ◌∷◌, ◌++◌}
use Prim.Native.Nat.{ℕ, ◌+◌, ◌*◌, ◌/◌, ◌%◌, ◌<◌, ◌≤◌}
use native.Mathlib.Nat.{add-zero, div-add-mod', div-div-eq-div-mul, div-lt_iff_lt-mul, mod-eq_of_lt, zero-lt-suc}
use native.Mathlib.Omega.{arith}
use lib.ListN.{length, get_or, take, drop, length-append, length-drop}
use lib.Seq.{get_or-drop, take_at, drop-drop}
use Rattle.messages.specs.Places.{byte_at, Whole}
use Rattle.message_writer.specs.Message.{is_no_type, longest_body, total_of, message_of, source_at}
use Rattle.message_writer.proofs.Bytes.{message-bytes}
use Rattle.message_writer.proofs.Types.{other-type}

-- ---- numbers of two and of four bytes
two_back : (w : ℕ) → w < 65536 → w / 256 % 256 * 256 + w % 256 ≡ w
two_back w h =
    let high : w / 256 % 256 ≡ w / 256 = mod-eq_of_lt ((div-lt_iff_lt-mul {y = 256} (zero-lt-suc 255)).1 h) in
    omega (arith, high, div-add-mod' w 256)

four_back : (w : ℕ) → w < 4294967296 → ((w / 16777216 % 256 * 256 + w / 65536 % 256) * 256 + w / 256 % 256) * 256 + w % 256 ≡ w
four_back w h =
    let high : w / 16777216 % 256 ≡ w / 16777216 = mod-eq_of_lt ((div-lt_iff_lt-mul {y = 256} (zero-lt-suc 16777215)).1 h) in
    let third = div-add-mod' (w / 65536) 256 in
    let second = div-add-mod' (w / 256) 256 in
    omega (arith, high, div-add-mod' w 256, second, third, div-div-eq-div-mul w 256 256, div-div-eq-div-mul w 65536 256)

-- ---- the bytes from a place on begin with a message's
module _ (type source : ℕ) (body datagram : List ℕ) (place : ℕ) (rest : List ℕ) (stands : drop place datagram ≡ message_of type source body ++ rest) where
  abbrev Spelt : List ℕ
  Spelt =
      let total = total_of body in
      type ∷ total / 256 % 256 ∷ total % 256 ∷ source / 16777216 % 256 ∷ source / 65536 % 256 ∷ source / 256 % 256 ∷ source % 256 ∷ body ++ rest

  spelt : drop place datagram ≡ Spelt
  spelt = stands ∙ ap (λ (l : List ℕ). l ++ rest) (message-bytes type source body)

  byte : (k : ℕ) → byte_at datagram (place + k) ≡ get_or Spelt k 0
  byte k = sym (get_or-drop place datagram k 0) ∙ ap (λ (l : List ℕ). get_or l k 0) spelt

  pub type_at : byte_at datagram place ≡ type
  type_at = ap (byte_at datagram) (sym (add-zero place)) ∙ byte 0

  pub source_at_lem : source < 4294967296 → source_at datagram place ≡ source
  source_at_lem h = rw (byte 3, byte 4, byte 5, byte 6) (four_back source h)

  pub body_at : take (length body) (drop (place + 7) datagram) ≡ body
  body_at = ap (take (length body)) (sym (drop-drop 7 place datagram) ∙ ap (drop 7) spelt) ∙ take_at body rest (length body) refl

  pub whole : is_no_type type ≡ false → length body ≤ longest_body → Whole datagram place (total_of body)
  whole typed short =
      let long = ap length spelt in
      let left = length-drop place datagram in
      let both = length-append body rest in
      record {
        begins = record {
          inside = omega (arith, long, left);
          no_fill = λ e. other-type type 81 typed refl (sym type_at ∙ e);
          no_zero = λ e. other-type type 0 typed refl (sym type_at ∙ e);
        };
        declares = rw (byte 1, byte 2) (sym (two_back (total_of body) (omega arith)));
        least = omega arith;
        ends = omega (arith, long, left, both);
      }
