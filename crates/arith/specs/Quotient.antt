-- The capped quotient.
use Rattle.std.specs.Prelude.{ℕ, zero, suc, ◌*◌, ◌/◌, ◌≤◌, min}

-- the largest whole number not above `cap` whose product with d is not above n; the cap where d is 0
-- (the law `quotient_is` says that it is that number, `quotient_unique` that there is one only)
unfoldable pub capped_quotient : (cap n d : ℕ) → ℕ
capped_quotient cap n zero = cap
capped_quotient cap n (suc d) = min cap (n / suc d)

-- q is the largest whole number not above `cap` with q × d not above n
pub record IsCappedQuotient (cap n d q : ℕ) : Type 0 where
  pub not_above_cap : q ≤ cap
  pub not_above : q * d ≤ n
  pub largest : (p : ℕ) → p ≤ cap → p * d ≤ n → p ≤ q
