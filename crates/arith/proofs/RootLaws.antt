-- `root_of n` is the largest whole number whose square is not above n, and Newton's step from any number above 0 is at least that root. From `Squares`.
use Rattle.std.proofs.Common.{◌≡◌, ℕ, zero, suc, ◌+◌, ◌-◌, ◌*◌, ◌/◌, ◌^◌, ◌<◌, ◌≤◌, Bool, true, false, cond, leb, refl, le_refl, lt_of_lt_of_le, lt_of_le_of_lt, div-lt_iff_lt-mul, mul-le-mul, arith, pow_pos, pow_mono, shr_lt, leb-false, leb-true}
use native.Mathlib.Nat.{lt-mul-div-succ}
use lib.Count.{count_leading_zeros, leading_length}
use Rattle.arith.specs.Root.{IsRoot, root_of, root_by_digits, next_root}
use Rattle.arith.proofs.Squares.{square_next, square_double, square_less, four_product}

-- one digit more: from the root of n / 4 to the root of n
next_root_lem : (n s : ℕ) → IsRoot (n / 4) s → IsRoot n (next_root n s)
unfolding next_root
next_root_lem n s h = go (leb ((2 * s + 1) * (2 * s + 1)) n) refl
  where
    go : (b : Bool) → leb ((2 * s + 1) * (2 * s + 1)) n ≡ b → IsRoot n (cond b (2 * s + 1) (2 * s))
    go true e = record {
      not_above = leb-true _ _ e;
      next_above = omega (arith, h.next_above, square_next s, square_next (2 * s), square_next (2 * s + 1), square_double s);
    }
    go false e = record {
      not_above = omega (arith, h.not_above, square_double s);
      next_above = leb-false _ _ e;
    }

digits_root : (k n : ℕ) → n ≤ k → IsRoot n (root_by_digits k n)
unfolding root_by_digits
digits_root zero n h = record { not_above = omega arith; next_above = omega arith }
digits_root (suc k) zero h = record { not_above = omega arith; next_above = omega arith }
digits_root (suc k) (suc m) h = next_root_lem (suc m) (root_by_digits k (suc m / 4)) (digits_root k (suc m / 4) (omega arith))

-- the definition is the largest whole number whose square is not above n
pub root_is : (n : ℕ) → IsRoot n (root_of n)
unfolding root_of
root_is n = digits_root n n (le_refl n)

below_next : {n r s : ℕ} → IsRoot n r → IsRoot n s → r < s + 1
below_next h g = square_less (lt_of_le_of_lt h.not_above g.next_above)

-- there is one such number only
pub root_unique : {n r s : ℕ} → IsRoot n r → IsRoot n s → r ≡ s
root_unique h g = omega (arith, below_next h g, below_next g h)

-- "largest" as a rule: a number whose square is not above n is at most the root
pub root_largest : (n r : ℕ) → r * r ≤ n → r ≤ root_of n
root_largest n r h = omega (arith, square_less (lt_of_le_of_lt h (root_is n).next_above))

-- Newton's step from any g above 0 is at least the root of n
pub newton_above : (n g : ℕ) → 0 < g → n < ((g + n / g) / 2 + 1) * ((g + n / g) / 2 + 1)
newton_above n g h =
    let q = n / g in
    let m = (g + q) / 2 + 1 in
    let wide = mul-le-mul {n₁ = g + (q + 1)} {m₁ = g + (q + 1)} {n₂ = 2 * m} {m₂ = 2 * m} (omega arith) (omega arith) in
    omega (arith, lt-mul-div-succ n h, four_product g (q + 1), square_double m, wide)

-- 2 to half the number of n's binary digits is above 0, and Newton's step from it is below 2^32
pub guess_below : (n z s : ℕ) → z ≡ count_leading_zeros 64 n → n < 2 ^ 64 → s ≡ 2 ^ ((64 - z) / 2) → (0 < s) × ((s + n / s) / 2 < 2 ^ 32)
guess_below n z s e h f =
    let k = (64 - z) / 2 in
    let digits = leading_length 64 n h in
    let scale = pow_mono {i = k} {j = 32} (omega arith) in
    let divided = shr_lt 32 k (lt_of_lt_of_le digits.2 (pow_mono (omega (arith, e, digits.1)))) in
    rw f (pow_pos k, omega (arith, scale, divided))

-- a number that is at least the root stays so as it grows
pub grown_above : {n g r : ℕ} → g ≤ r → n < (g + 1) * (g + 1) → n < (r + 1) * (r + 1)
grown_above {g = g} {r = r} le h = lt_of_lt_of_le h (mul-le-mul {n₁ = g + 1} {m₁ = g + 1} (omega arith) (omega arith))

square_above_zero : (n r : ℕ) → n < r * r → 0 < r
square_above_zero n zero h = omega arith
square_above_zero n (suc r) h = omega arith

-- where the square of the number below r is above n, r is at least 2, and above n / r
pub newton_falls : (n r : ℕ) → n < (r - 1) * (r - 1) → (2 ≤ r) × (n / r < r)
newton_falls n r h =
    let above : 2 ≤ r = omega (arith, square_above_zero n (r - 1) h) in
    (above, (div-lt_iff_lt-mul {k = r} {x = n} {y = r} (omega arith)).1 (omega (arith, h, mul-le-mul {n₁ = r - 1} {m₁ = r - 1} {n₂ = r} {m₂ = r} (omega arith) (omega arith))))

-- a number whose square is not above n, while the square of the next one is, is the root
pub root_found : {n r : ℕ} → r * r ≤ n → n < (r + 1) * (r + 1) → r ≡ root_of n
root_found {n} h above = root_unique (record { not_above = h; next_above = above }) (root_is n)
