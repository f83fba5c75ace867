-- Character by character into a row of 32; any other length is refused whatever the characters are. Assumes nothing.
use Rattle.std.proofs.Common.{◌≡◌, ◌<◌, ℕ, List, map, length, get_or, sym, ap, ◌∙◌, arith, rules}
use Rattle.std.proofs.lemmas.List.{ext_get_or, length-map, get_or-map}
use Rattle.std.proofs.lemmas.Grind.{common_steps}
use Rattle.words.specs.Calls.{read_word}
use Rattle.words.proofs.Calls.{read_length}
use Rattle.printer_text.specs.Line.{bit_of}
use Rattle.printer_text.proofs.read_characters.Goals as goal

pub returns-in_default : goal.returns-in_default
returns-in_default c = grind (arith, common_steps, read_length)

-- a row that has the bit of every character is the line's
bits_of : (line row : List ℕ) → length row ≡ length line → ((i : ℕ) → i < length line → get_or row i 0 ≡ bit_of (get_or line i 0)) → row ≡ map bit_of line
bits_of line row long each =
    ext_get_or 0 _ _ (long ∙ sym (length-map line bit_of))
    (λ i h. let inside : i < length line = omega arith in rw (get_or-map bit_of line i 0 0 inside) (each i inside))

pub returns : goal.returns
returns c =
    let items = c.map.ensures.items in
    let long : length c.args.line.now ≡ 32 = c.in-Ok.ensures.1.long in
    c.read-2.ensures ∙ ap read_word (bits_of _ _ (items.long ∙ sym long) (λ i h. let one = (items.at i 0 0 (omega arith)).2 in search rules))
