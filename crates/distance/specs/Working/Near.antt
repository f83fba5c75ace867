-- A row that may have been sent for what came: k bits, the check right, the image within one place.
use Rattle.std.specs.Prelude.{◌≡◌, Bool, List, ◌≤◌, length}
use Rattle.bits.specs.Row.{differences}
use Rattle.check32.specs.Working.Closes.{Closes}
use Rattle.distance.specs.Working.Coding.{Coding, image}

-- k bits whose check is right
pub record Right (c : Coding) (a : List Bool) : Type 0 where
  pub long : length a ≡ c.k
  pub closes : Closes a

pub record Near (c : Coding) (came a : List Bool) : Type 0 where
  pub right : Right c a
  pub within : differences (image c a) came ≤ 1
