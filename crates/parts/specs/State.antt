-- A slot burst that comes in parts (document 02, K2): the state, what a part makes of it, and what it has heard.
use Rattle.std.specs.Prelude.{List, [], ◌∷◌, ◌++◌, ℕ, ◌+◌, ◌-◌, min, length, take, replicate}
use Rattle.lists.specs.Over.{over}

-- the bits of the longest burst, and the count at which counting stops
abbrev pub longest : ℕ
longest = 1504

abbrev pub stop : ℕ
stop = 1505

-- how many bytes came, and those that are kept
pub record State : Type 0 where
  pub count : ℕ
  pub bits : List ℕ

abbrev pub state : ℕ → List ℕ → State
state count bits = record { count = count; bits = bits }

-- no byte of a burst
unfoldable pub blank : List ℕ
blank = replicate longest 0

-- nothing came, and no byte of an earlier burst is left
abbrev pub fresh : State
fresh = state 0 blank

-- a part is laid behind what is kept, as far as there is room, and counted
unfoldable pub taken : State → List ℕ → State
taken before part = state (min (before.count + length part) stop) (over before.count (take (longest - before.count) part) before.bits)

-- the bytes that came; where more came than are kept, one byte behind these stands for all the others
unfoldable pub heard : State → List ℕ
heard now = take now.count (now.bits ++ 0 ∷ [])
