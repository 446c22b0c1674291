-- `capped_quotient cap n d` is the largest number not above the cap whose product with d is not above n. From the laws of division.
use Rattle.std.proofs.Common.{◌≡◌, ℕ, zero, suc, ◌*◌, ◌/◌, ◌<◌, ◌≤◌, min, le_refl, le_antisymm, mul-zero, le-div_iff_mul-le, arith}
use native.Mathlib.Nat.{le-min, min-le_left, min-le_right}
use Rattle.arith.specs.Quotient.{capped_quotient, IsCappedQuotient}

-- above 0 the divisor gives the smaller of the cap and the quotient
capped : (cap n d : ℕ) → 0 < d → IsCappedQuotient cap n d (min cap (n / d))
capped cap n d h =
    record {
      not_above_cap = min-le_left _ _;
      not_above = (le-div_iff_mul-le h).0 (min-le_right cap (n / d));
      largest = λ p a b. le-min a ((le-div_iff_mul-le h).1 b);
    }

-- the definition is the largest such number
pub quotient_is : (cap n d : ℕ) → IsCappedQuotient cap n d (capped_quotient cap n d)
unfolding capped_quotient
quotient_is cap n zero = record { not_above_cap = le_refl cap; not_above = rw mul-zero (omega arith); largest = λ p h g. h }
quotient_is cap n (suc d) = capped cap n (suc d) (omega arith)

-- there is one such number only
pub quotient_unique : {cap n d q r : ℕ} → IsCappedQuotient cap n d q → IsCappedQuotient cap n d r → q ≡ r
quotient_unique {q = q} {r = r} h g = le_antisymm (g.largest q h.not_above_cap h.not_above) (h.largest r g.not_above_cap g.not_above)

pub quotient_positive : (cap n d : ℕ) → 0 < d → capped_quotient cap n d ≡ min cap (n / d)
quotient_positive cap n d h = quotient_unique (quotient_is cap n d) (capped cap n d h)

-- where the cap times the divisor is not above n, it is the cap
pub quotient_cap : (cap n d : ℕ) → cap * d ≤ n → capped_quotient cap n d ≡ cap
quotient_cap cap n d h = quotient_unique (quotient_is cap n d) (record { not_above_cap = le_refl cap; not_above = h; largest = λ p a b. a })
