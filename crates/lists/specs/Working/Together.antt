-- Several tests together.
use Rattle.std.specs.Prelude.{Bool, List}
use Rattle.lists.specs.Every.{every}

abbrev same : Bool → Bool
same b = b

-- all of some tests hold
abbrev pub together : List Bool → Bool
together tests = every same tests
