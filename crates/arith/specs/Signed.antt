-- Signed numbers, in ℤ.
use Rattle.std.specs.Prelude.{ℕ, Bool, cond, ℤ, pos, negsuc, ◌-ℤ◌, neg_ℤ}

-- a number, or 0 where it is below 0
abbrev pub or_zero : ℤ → ℕ
or_zero (pos n) = n
or_zero (negsuc n) = 0

-- p minus s, or 0 where s is not below p
abbrev pub gap_of : (p : ℕ) (s : ℤ) → ℕ
gap_of p s = or_zero (pos p -ℤ s)

-- the number of a magnitude, with its sign
abbrev pub signed_by : (negative : Bool) → ℕ → ℤ
signed_by negative n = cond negative (neg_ℤ (pos n)) (pos n)
