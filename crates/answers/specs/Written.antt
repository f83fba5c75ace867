-- What a writing call answers (document 01, "Numbers a caller gets back").
use Rattle.std.specs.Prelude.{ℕ}
use Rattle.answers.specs.Numbers.{done}
use Rattle.answers.specs.declared.Written.{Written}

-- a refusal: the number, and 0 for the count
abbrev pub refused : ℕ → Written
refused number = record { status = number; count = 0 }

-- done: the exact count
abbrev pub wrote : ℕ → Written
wrote count = record { status = done; count = count }
