-- The root of a whole number, rounded down.
use Rattle.std.specs.Prelude.{ℕ, zero, suc, ◌+◌, ◌*◌, ◌/◌, ◌<◌, ◌≤◌, cond, nat_le}

-- the root of n, from the root r of n / 4: one more than its double where the square of that is not above n, else its double
unfoldable pub next_root : (n r : ℕ) → ℕ
next_root n r = cond (nat_le ((2 * r + 1) * (2 * r + 1)) n) (2 * r + 1) (2 * r)

-- the root of n by its digits in base 4, at most as many as the first argument says
unfoldable pub root_by_digits : (digits n : ℕ) → ℕ
root_by_digits zero n = 0
root_by_digits (suc k) zero = 0
root_by_digits (suc k) (suc m) = next_root (suc m) (root_by_digits k (suc m / 4))

-- the largest whole number whose square is not above n (the law `root_is` says that it is that number, `root_unique` that there is one only)
unfoldable pub root_of : ℕ → ℕ
root_of n = root_by_digits n n

-- r is the largest whole number whose square is not above n
pub record IsRoot (n r : ℕ) : Type 0 where
  pub not_above : r * r ≤ n
  pub next_above : n < (r + 1) * (r + 1)
