-- The flags of a pattern's clocks as they are passed on: at the start of an array.
use Rattle.std.specs.Prelude.{List, ℕ, take}
use Rattle.links.specs.declared.flags.Flags.{Flags}

abbrev pub clocks_of : Flags → List (List ℕ)
clocks_of flags = take flags.period flags.pattern
