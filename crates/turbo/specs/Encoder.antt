-- One encoder (M.2092-1, Annex 2, 1.2.4.2; document 01, "From datagram to block"): its register and what a clock puts
-- out. Sums are modulo 2.
use Rattle.std.specs.Prelude.{Bool, false}
use Rattle.std.specs.Bool.{xor}

-- the last three register bits, a(t-1), a(t-2), a(t-3)
pub record Register : Type 0 where
  pub a1 : Bool
  pub a2 : Bool
  pub a3 : Bool

-- all zero at the start
abbrev pub start : Register
start = record { a1 = false; a2 = false; a3 = false }

-- what the ending feeds: a(t-2) + a(t-3)
abbrev pub feedback : Register → Bool
feedback r = xor r.a2 r.a3

-- a, with input u
abbrev pub fed : Register → Bool → Bool
fed r u = xor u (feedback r)

-- the register after the clock
abbrev pub next : Register → Bool → Register
next r u = record { a1 = fed r u; a2 = r.a1; a3 = r.a2 }

-- Y0 = a + a(t-1) + a(t-3)
abbrev pub y0 : Register → Bool → Bool
y0 r u = xor (fed r u) (xor r.a1 r.a3)

-- Y1 = a + a(t-1) + a(t-2) + a(t-3)
abbrev pub y1 : Register → Bool → Bool
y1 r u = xor (fed r u) (xor r.a1 (xor r.a2 r.a3))
