-- Laws of products and long division in base 2^32, over plain numbers. From the laws of products, quotients and remainders.
use Rattle.std.proofs.Common.{◌≡◌, ℕ, zero, suc, ◌+◌, ◌-◌, ◌*◌, ◌/◌, ◌%◌, ◌^◌, ◌<◌, ◌≤◌, min, sym, ap, ◌∙◌, mul-le-mul_right, mod-lt, mul_assoc, suc-mul, div-lt_iff_lt-mul, add-mul, mul-le-mul, mul-lt-mul_of_pos_right, lt_of_not-le, div-add-mod', zero-mul, mul-add, mul_right_comm, div-mul-le_self, add-one, arith, mod-eq_of_lt, pow_pos, pow-add}
use native.Mathlib.Nat.{min-eq_left, min-eq_right, lt-div-mul-add, mul-add-div_right, div-div-eq-div-mul, mul-div-mul_right}
use native.Mathlib.Decide.{dec_le}
use lib.Count.{count_leading_zeros, leading_top}

-- the product of two halves
pub half_product : {x y : ℕ} → x < 2 ^ 32 → y < 2 ^ 32 → x * y ≤ (2 ^ 32 - 1) * (2 ^ 32 - 1)
half_product h g = mul-le-mul {n₂ = 2 ^ 32 - 1} {m₂ = 2 ^ 32 - 1} (omega arith) (omega arith)

-- a multiple of d by d's halves
pub by_halves : (q d : ℕ) → q * d ≡ q * (d / 2 ^ 32) * 2 ^ 32 + q * (d % 2 ^ 32)
by_halves q d =
    ap (λ (x : ℕ). q * x) (sym (div-add-mod' d (2 ^ 32)))
    ∙ omega (arith, mul-add q (d / 2 ^ 32 * 2 ^ 32) (d % 2 ^ 32), mul_assoc q (d / 2 ^ 32) (2 ^ 32))

-- a number of two digits over d where the first is below d
abbrev pub two_digits : (high low : ℕ) → ℕ
two_digits high low = high * 2 ^ 32 + low

-- the digit tried first is not too small
pub first_try : (high low d : ℕ) → 2 ^ 32 ≤ d → high < d → low < 2 ^ 32 →
    two_digits high low < (min (high / (d / 2 ^ 32)) (2 ^ 32 - 1) + 1) * d
first_try high low d wide h l = go (dec_le (high / (d / 2 ^ 32)) (2 ^ 32 - 1))
  where
    go : Dec (high / (d / 2 ^ 32) ≤ 2 ^ 32 - 1) → two_digits high low < (min (high / (d / 2 ^ 32)) (2 ^ 32 - 1) + 1) * d
    go (yes e) = rw (min-eq_left e) (omega (arith, lt-div-mul-add {a = high} {b = d / 2 ^ 32} (omega arith), by_halves (high / (d / 2 ^ 32) + 1) d, add-mul (high / (d / 2 ^ 32)) 1 (d / 2 ^ 32)))
    go (no e) = rw (min-eq_right {n = 2 ^ 32 - 1} {m = high / (d / 2 ^ 32)} (omega (arith, lt_of_not-le e))) (omega arith)

-- the lowered digit: what is left above the leading half of d decides
pub digit_fits : (high low d q : ℕ) → q * (d / 2 ^ 32) ≤ high → q * (d % 2 ^ 32) ≤ (high - q * (d / 2 ^ 32)) * 2 ^ 32 + low → q * d ≤ two_digits high low
digit_fits high low d q a b = omega (arith, by_halves q d)

-- where a base or more is left, the digit fits whatever the lower half of d
pub digit_surely_fits : (high low d q : ℕ) → q < 2 ^ 32 → q * (d / 2 ^ 32) ≤ high → 2 ^ 32 ≤ high - q * (d / 2 ^ 32) → q * d ≤ two_digits high low
digit_surely_fits high low d q b a left = digit_fits high low d q a (omega (arith, half_product {x = q} {y = d % 2 ^ 32} b (omega arith)))

-- where it does not fit, one less is still not too small
pub digit_too_large : (high low d q : ℕ) → q * (d / 2 ^ 32) ≤ high → (high - q * (d / 2 ^ 32)) * 2 ^ 32 + low < q * (d % 2 ^ 32) → (0 < q) × (two_digits high low < (q - 1 + 1) * d) × ((q - 1) * (d / 2 ^ 32) ≤ high)
digit_too_large high low d zero a b = absurd (omega (arith, zero-mul (d % 2 ^ 32)))
digit_too_large high low d (suc q) a b = (
  omega arith,
  rw (suc_sub_one q) (rw add-one (omega (arith, by_halves (suc q) d))),
  rw (suc_sub_one q) (omega (arith, suc-mul q (d / 2 ^ 32))),
)
  where
    suc_sub_one : (n : ℕ) → suc n - 1 ≡ n
    suc_sub_one n = omega arith

-- what is left of two digits after q times d, where only its lowest 64 bits are at hand
pub remainder_wraps : (high low d q r : ℕ) → low < 2 ^ 32 → d < 2 ^ 64 → 0 < d → q ≡ two_digits high low / d → q * (d / 2 ^ 32) ≤ high → q * (d % 2 ^ 32) < 2 ^ 64 → r < 2 ^ 64 →
    (r + q * (d % 2 ^ 32)) % 2 ^ 64 ≡ (high - q * (d / 2 ^ 32)) % 2 ^ 32 * 2 ^ 32 + low → r ≡ two_digits high low % d
remainder_wraps high low d q r l w p e a f g h =
    let back : q * d + two_digits high low % d ≡ two_digits high low = rw e (div-add-mod' (two_digits high low) d) in
    same_sum r (two_digits high low % d) (q * (d % 2 ^ 32)) _ g (omega (arith, mod-lt (two_digits high low) p)) f h
    (omega (arith, by_halves q d))
  where
    same_sum : (r s x a : ℕ) → r < 2 ^ 64 → s < 2 ^ 64 → x < 2 ^ 64 → (r + x) % 2 ^ 64 ≡ a → (s + x) % 2 ^ 64 ≡ a → r ≡ s
    same_sum r s x a hr hs hx e₁ e₂ = omega arith

-- the leading half of d, q times, is within the leading digit
pub lead_within : (high low d q : ℕ) → low < 2 ^ 32 → q ≡ two_digits high low / d → q * (d / 2 ^ 32) ≤ high
lead_within high low d q l e = omega (arith, by_halves q d, rw (← e) at (div-mul-le_self (two_digits high low) d))

-- a digit is below the base
pub digit_below : (high low d : ℕ) → 0 < d → high < d → low < 2 ^ 32 → two_digits high low / d < 2 ^ 32
digit_below high low d p h l = (div-lt_iff_lt-mul p).1 (omega arith)

-- long division by two digits
pub two_steps : (top rest d : ℕ) → 0 < d →
    two_digits top (rest / 2 ^ 32) / d * 2 ^ 32 + two_digits (two_digits top (rest / 2 ^ 32) % d) (rest % 2 ^ 32) / d ≡ (top * 2 ^ 64 + rest) / d
two_steps top rest d p =
    let m = two_digits top (rest / 2 ^ 32) in
    sym (ap (λ (x : ℕ). x / d) (omega (arith, div-add-mod' m d, mul_right_comm (m / d) (2 ^ 32) d)) ∙ mul-add-div_right p (m / d * 2 ^ 32) (m % d * 2 ^ 32 + rest % 2 ^ 32))

-- the digits one after the other
pub digits_join : (top rest d first second last : ℕ) → 0 < d → first ≡ two_digits top (rest / 2 ^ 32) / d → second ≡ two_digits top (rest / 2 ^ 32) % d → last ≡ two_digits second (rest % 2 ^ 32) / d →
    first * 2 ^ 32 + last ≡ (top * 2 ^ 64 + rest) / d
digits_join top rest d first second last p e₁ e₂ e₃ = (λ i. e₁ i * 2 ^ 32 + (e₃ ∙ ap (λ (x : ℕ). two_digits x (rest % 2 ^ 32) / d) e₂) i) ∙ two_steps top rest d p

product_of_powers : (i j k : ℕ) → i + j ≡ k → 2 ^ i * 2 ^ j ≡ 2 ^ k
product_of_powers i j k e = sym (pow-add 2 i j) ∙ ap (λ (x : ℕ). 2 ^ x) e

-- with its leading zeros shifted out, a number has its leading bit at 63
normal : (d s : ℕ) → s ≡ count_leading_zeros 64 d → 0 < d → d < 2 ^ 64 → (s ≤ 63) × (2 ^ 63 ≤ d * 2 ^ s) × (d * 2 ^ s < 2 ^ 64)
normal d s e p w = leading (leading_top 64 d p w)
  where
    leading : (j : ℕ) × (count_leading_zeros 64 d + suc j ≡ 64) × (2 ^ j ≤ d) × (d < 2 ^ suc j) → (s ≤ 63) × (2 ^ 63 ≤ d * 2 ^ s) × (d * 2 ^ s < 2 ^ 64)
    leading (j, f, lo, hi) = (
      omega arith,
      omega (arith, product_of_powers j s 63 (omega arith), mul-le-mul_right (2 ^ s) lo),
      omega (arith, product_of_powers (suc j) s 64 (omega arith), mul-lt-mul_of_pos_right hi (pow_pos s)),
    )

-- two words times 2^s, where s is at most 63
shifted : (high low s : ℕ) → s ≤ 63 → (high * 2 ^ s + low / 2 / 2 ^ (63 - s)) * 2 ^ 64 + low * 2 ^ s % 2 ^ 64 ≡ (high * 2 ^ 64 + low) * 2 ^ s
shifted high low s h =
    let whole : 2 * 2 ^ (63 - s) * 2 ^ s ≡ 2 ^ 64 = mul_assoc 2 (2 ^ (63 - s)) (2 ^ s) ∙ ap (λ (x : ℕ). 2 * x) (product_of_powers (63 - s) s 63 (omega arith)) in
    let carry : low / 2 / 2 ^ (63 - s) ≡ low * 2 ^ s / 2 ^ 64 =
    div-div-eq-div-mul low 2 (2 ^ (63 - s)) ∙ sym (mul-div-mul_right low (2 * 2 ^ (63 - s)) (pow_pos s)) ∙ ap (λ (x : ℕ). low * 2 ^ s / x) whole in
    omega (arith, carry, add-mul (high * 2 ^ 64) low (2 ^ s), mul_right_comm high (2 ^ 64) (2 ^ s))

-- so the leading word stays below the divisor
shifted_below : (high low d s : ℕ) → s ≤ 63 → high < d → low < 2 ^ 64 → high * 2 ^ s + low / 2 / 2 ^ (63 - s) < d * 2 ^ s
shifted_below high low d s h a b =
    lead _ (d * 2 ^ s) (low * 2 ^ s % 2 ^ 64) _
    (shifted high low s h)
    (rw (← mul_right_comm d (2 ^ 64) (2 ^ s)) (mul-lt-mul_of_pos_right {m = high * 2 ^ 64 + low} {n = d * 2 ^ 64} (omega arith) (pow_pos s)))
  where
    lead : (t v r n : ℕ) → t * 2 ^ 64 + r ≡ n → n < v * 2 ^ 64 → t < v
    lead t v r n e f = omega arith

-- a division by d after both sides are multiplied by the power of two that brings d's leading bit to 63
pub record Scaled (high low d divisor top rest : ℕ) : Type 0 where
  pub wide : 2 ^ 63 ≤ divisor
  pub below : top < divisor
  pub fits : divisor < 2 ^ 64
  pub same : (top * 2 ^ 64 + rest) / divisor ≡ (high * 2 ^ 64 + low) / d

-- the shift by the leading zeros of d is such a scaling
pub scaled : (high low d s : ℕ) → s ≡ count_leading_zeros 64 d → high < d → d < 2 ^ 64 → low < 2 ^ 64 →
    Scaled high low d (d * 2 ^ s % 2 ^ 64) (high * 2 ^ s % 2 ^ 64 + low / 2 / 2 ^ (63 - s)) (low * 2 ^ s % 2 ^ 64)
scaled high low d s e h w l = go (normal d s e (omega arith) w)
  where
    go : (s ≤ 63) × (2 ^ 63 ≤ d * 2 ^ s) × (d * 2 ^ s < 2 ^ 64) →
        Scaled high low d (d * 2 ^ s % 2 ^ 64) (high * 2 ^ s % 2 ^ 64 + low / 2 / 2 ^ (63 - s)) (low * 2 ^ s % 2 ^ 64)
    go (a, b, c) =
        let divisor : d * 2 ^ s % 2 ^ 64 ≡ d * 2 ^ s = mod-eq_of_lt c in
        let less : high * 2 ^ s < d * 2 ^ s = mul-lt-mul_of_pos_right h (pow_pos s) in
        let front : high * 2 ^ s % 2 ^ 64 ≡ high * 2 ^ s = mod-eq_of_lt (omega arith) in
        rw (divisor, front)
        (record {
          wide = b;
          fits = c;
          below = shifted_below high low d s a h l;
          same = ap (λ (x : ℕ). x / (d * 2 ^ s)) (shifted high low s a) ∙ mul-div-mul_right (high * 2 ^ 64 + low) d (pow_pos s);
        })
