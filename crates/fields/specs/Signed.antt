-- Two's complement of any width.
use Rattle.std.specs.Prelude.{ℕ, suc, ◌+◌, ◌-◌, ◌%◌, ◌^◌, cond, ltb, ℤ, pos, negsuc}

-- the integer that a number n below 2 ^ width stands for: n in the lower half, else n - 2 ^ width
abbrev pub signed : ℕ → ℕ → ℤ
signed width n = cond (ltb (n + n) (2 ^ width)) (pos n) (negsuc (2 ^ width - suc n))

-- the integer that the `width` low bits of n stand for
unfoldable pub signed_of : ℕ → ℕ → ℤ
signed_of width n = signed width (n % 2 ^ width)

-- the `width` low bits of an integer
unfoldable pub bits_of : ℕ → ℤ → ℕ
bits_of width (pos n) = n % 2 ^ width
bits_of width (negsuc n) = 2 ^ width - suc (n % 2 ^ width)
