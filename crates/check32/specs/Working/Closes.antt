-- A row of bits that ends with its check.
use Rattle.std.specs.Prelude.{◌≡◌, Bool, List}
use Rattle.check32.specs.Check.{register}

-- it is right if the register over all its bits ends at zero
abbrev pub Closes : List Bool → Type 0
Closes row = register row ≡ 0
