-- Laws of squares, from the distributive laws.
use Rattle.std.proofs.Common.{◌≡◌, ℕ, ◌+◌, ◌-◌, ◌*◌, ◌<◌, ◌≤◌, mul_assoc, mul_comm, add-mul, mul-le-mul, lt_of_not-le, mul-add, not-le_of_lt, arith}
use native.Mathlib.Decide.{dec_le}

-- the square of a sum
pub square_sum : (a b : ℕ) → (a + b) * (a + b) ≡ a * a + 2 * (a * b) + b * b
square_sum a b = omega (arith, add-mul a b (a + b), mul-add a a b, mul-add b a b, mul_comm b a)

-- the square of the next number
pub square_next : (r : ℕ) → (r + 1) * (r + 1) ≡ r * r + 2 * r + 1
square_next r = omega (arith, square_sum r 1)

-- the square of a double
pub square_double : (r : ℕ) → (2 * r) * (2 * r) ≡ 4 * (r * r)
square_double r = omega (arith, mul_assoc 2 r (2 * r), mul_comm r (2 * r), mul_assoc 2 r r)

-- of two numbers the one with the smaller square is the smaller
pub square_less : {a b : ℕ} → a * a < b * b → a < b
square_less h = lt_of_not-le (λ g. not-le_of_lt h (mul-le-mul g g))

-- four times a product is at most the square of the sum
pub four_product : (a b : ℕ) → 4 * (a * b) ≤ (a + b) * (a + b)
four_product a b = elim (dec_le a b) [ yes h ↦ omega (arith, ordered a b (b - a) (omega arith)) | no h ↦ omega (arith, ordered b a (a - b) (omega (arith, lt_of_not-le h)), mul_comm a b, square_sum a b, square_sum b a) ]
  where
    apart : (a d : ℕ) → 4 * (a * (a + d)) ≤ (a + (a + d)) * (a + (a + d))
    apart a d = omega (arith, square_sum a (a + d), square_sum a d, mul-add a a d)

    ordered : (a b d : ℕ) → b ≡ a + d → 4 * (a * b) ≤ (a + b) * (a + b)
    ordered a b d e = rw e (apart a d)
