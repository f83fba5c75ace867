-- The 32-bit check (document 01, "From datagram to block"; M.2092-1, Annex 2, 1.2.5): a row of bits goes, the first first, through
-- a register of 32 bits, which is a number here: its digit i is the coefficient of x^i.
use Rattle.std.specs.Prelude.{Bool, List, [], ◌∷◌, ℕ, ◌*◌, ◌/◌, ◌%◌, ◌^◌}
use Rattle.bits.specs.Bits.{byte}
use Rattle.bits.specs.Row.{high_first}
use Rattle.bits.specs.Xor.{◌⊕◌}

-- the generator: x^32+x^26+x^23+x^22+x^16+x^12+x^11+x^10+x^8+x^7+x^5+x^4+x^2+x+1
abbrev pub generator : ℕ
generator = 0x104C11DB7

-- what it leaves of x^32
abbrev pub x32 : ℕ
x32 = 0x04C11DB7

-- x times a register, reduced by the generator
unfoldable pub times_x : ℕ → ℕ
times_x r = (r / 2 ^ 31 % 2 * generator) ⊕ (r * 2)

-- one bit goes into the register
unfoldable pub step : ℕ → Bool → ℕ
step r b = (byte b * x32) ⊕ times_x r

-- the bits of a row, one after another
unfoldable pub register_from : ℕ → List Bool → ℕ
register_from r [] = r
register_from r (b ∷ row) = register_from (step r b) row

-- the register is loaded with all ones
abbrev pub loaded : ℕ
loaded = 0xFFFFFFFF

abbrev pub register : List Bool → ℕ
register row = register_from loaded row

-- the check bits of a row: what the register then holds, the highest bit first, with no complement
abbrev pub check_bits : List Bool → List Bool
check_bits row = high_first 32 (register row)
