-- The register as the code keeps it (document 01, "Code places and language forms"): its three bits in a number below 8, a(t-1) the
-- lowest.
use Rattle.std.specs.Prelude.{ℕ, ◌≡◌, ◌+◌, ◌*◌, ◌/◌, ◌%◌, ◌<◌, eqb}
use lib.Dec.{eqb→eq}
use Rattle.lists.proofs.Line.{line}
use Rattle.bits.specs.Bits.{is_one, byte}
use Rattle.turbo.specs.Encoder.{Register}

unfoldable pub register_of : ℕ → Register
register_of n = record { a1 = is_one (n % 2); a2 = is_one (n / 2 % 2); a3 = is_one (n / 4 % 2) }

unfoldable pub number_of : Register → ℕ
number_of r = byte r.a1 + 2 * byte r.a2 + 4 * byte r.a3

-- no two numbers below 8 are one register, computed
pub number_of-register_of : (n : ℕ) → n < 8 → number_of (register_of n) ≡ n
unfolding register_of number_of
number_of-register_of n below = eqb→eq (number_of (register_of n)) n (line 8 (λ m. eqb (number_of (register_of m)) m) tt n below)
