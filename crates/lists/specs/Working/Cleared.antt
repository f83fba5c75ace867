-- Scratch, cleared. It is shut, so that thousands of zeros do not stand in a goal.
use Rattle.std.specs.Prelude.{List, ℕ, replicate}

unfoldable pub cleared : {A : Type 0} → A → ℕ → List A
cleared blank n = replicate n blank
