-- The place of a link that is offered.
-- Assumes nothing.
use mathlib.Core.Path.{◌≡◌}
use mathlib.Core.Bool.{true}
use Prim.Native.Nat.{ℕ, ◌<◌}
use lib.ListN.{length}
use borrow.Author.Tests.{ltb-true}
use Rattle.links.specs.Rows.{rows, place, offered}

pub offered-place : (link : ℕ) → offered link ≡ true → place link < length rows
unfolding offered
offered-place link e = ltb-true (place link) (length rows) e
