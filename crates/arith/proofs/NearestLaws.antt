-- The whole number nearest to a quotient: how it is computed, that there is one only, and that two parts still fit the whole where one
-- rounds an exact half down and the other rounds it up. From the laws of products and division.
use Rattle.std.proofs.Common.{◌≡◌, ℕ, zero, suc, ◌+◌, ◌-◌, ◌*◌, ◌/◌, ◌%◌, ◌<◌, ◌≤◌, sym, mul-le-mul_right, lt-suc_self, suc-mul, add-mul, le_antisymm, lt_of_mul-lt-mul_right, lt_of_not-le, zero-mul, not-le_of_lt, div-mul-le_self, arith}
use native.Mathlib.Nat.{lt-div-mul-add}
use native.Mathlib.Decide.{dec_le}
use lib.Arith.{lt_of_le-ne}
use Rattle.arith.specs.Nearest.{distance, Nearest, NearestHalfDown, NearestHalfUp, NearestHalfEven}

-- of two numbers the multiple of the greater is at least d further on
further : (d p q : ℕ) → p < q → p * d + d ≤ q * d
further d p q h = omega (arith, add-mul p 1 d, mul-le-mul_right {m = p + 1} {n = q} d (omega arith))

-- where q × d is at most half of d away from n, no number is nearer
module _ (n d q : ℕ) (above : 2 * (q * d) ≤ 2 * n + d) (below : 2 * n ≤ 2 * (q * d) + d) where
  nearest_within : (p : ℕ) → distance n d q ≤ distance n d p
  nearest_within p = elim (dec_le q p) [ yes h ↦ up (dec_le p q) h | no h ↦ omega (arith, further d p q (lt_of_not-le h)) ]
    where
      up : Dec (p ≤ q) → q ≤ p → distance n d q ≤ distance n d p
      up (yes g) h = rw (le_antisymm h g) (omega arith)
      up (no g) h = omega (arith, further d q p (lt_of_not-le g))

-- less than half of d above n, it is the lower one of two that are equally near
half_down : (n d q : ℕ) → 2 * (q * d) < 2 * n + d → 2 * n ≤ 2 * (q * d) + d → NearestHalfDown n d q
half_down n d q above below =
    record {
      none_nearer = nearest_within n d q (omega arith) below;
      half = λ p e. elim (dec_le q p) [ yes h ↦ h | no h ↦ omega (arith, e, further d p q (lt_of_not-le h)) ];
    }

-- less than half of d below n, the higher one
half_up : (n d q : ℕ) → 2 * (q * d) ≤ 2 * n + d → 2 * n < 2 * (q * d) + d → NearestHalfUp n d q
half_up n d q above below =
    record {
      none_nearer = nearest_within n d q above (omega arith);
      half = λ p e. elim (dec_le p q) [ yes h ↦ h | no h ↦ omega (arith, e, further d q p (lt_of_not-le h)) ];
    }

-- exactly half of d away only where it is even, it is the even one
pub half_even : (n d q : ℕ) → 2 * (q * d) ≤ 2 * n + d → 2 * n ≤ 2 * (q * d) + d → (2 * distance n d q ≡ d → q % 2 ≡ 0) → NearestHalfEven n d q
half_even n d q above below even =
    record { none_nearer = nearest_within n d q above below; half = λ p e other. even (elim (dec_le p q) [ yes h ↦ under p e (lt_of_le-ne h other) | no h ↦ over p e (lt_of_not-le h) ]) }
  where
    under : (p : ℕ) → distance n d p ≡ distance n d q → p < q → 2 * distance n d q ≡ d
    under p e h = omega (arith, e, further d p q h)

    over : (p : ℕ) → distance n d p ≡ distance n d q → q < p → 2 * distance n d q ≡ d
    over p e h = omega (arith, e, further d q p h)

-- the quotient by twice a number, with one less than it added
pub half_down_quotient : (n half : ℕ) → 0 < half → NearestHalfDown n (2 * half) ((n + half - 1) / (2 * half))
half_down_quotient n half h =
    let q = (n + half - 1) / (2 * half) in
    half_down n (2 * half) q (omega (arith, div-mul-le_self (n + half - 1) (2 * half))) (omega (arith, lt-div-mul-add {a = n + half - 1} {b = 2 * half} (omega arith)))

-- and with it added
pub half_up_quotient : (n half : ℕ) → 0 < half → NearestHalfUp n (2 * half) ((n + half) / (2 * half))
half_up_quotient n half h =
    let q = (n + half) / (2 * half) in
    half_up n (2 * half) q (omega (arith, div-mul-le_self (n + half) (2 * half))) (omega (arith, lt-div-mul-add {a = n + half} {b = 2 * half} (omega arith)))

-- there is one nearest number only, under a rule that prefers one of two
pub nearest_one : {Preferred : (q p : ℕ) → Type 0} → ((p q : ℕ) → Preferred p q → Preferred q p → p ≡ q)
    → {n d p q : ℕ} → Nearest Preferred n d p → Nearest Preferred n d q → p ≡ q
nearest_one prefers {n} {d} {p} {q} h g =
    let same = le_antisymm (h.none_nearer q) (g.none_nearer p) in
    prefers p q (h.half q (sym same)) (g.half p same)

-- it is at most half of d above n, and less where a half goes down
nearest_below : {Preferred : (q p : ℕ) → Type 0} (n d q : ℕ) → 0 < d → Nearest Preferred n d q → 2 * (q * d) ≤ 2 * n + d
nearest_below n d zero above h = omega (arith, zero-mul d)
nearest_below n d (suc q) above h = omega (arith, h.none_nearer q, suc-mul q d)

-- and at most half of d below it
nearest_above : {Preferred : (q p : ℕ) → Type 0} (n d q : ℕ) → 0 < d → Nearest Preferred n d q → 2 * n ≤ 2 * (q * d) + d
nearest_above n d q above h = omega (arith, h.none_nearer (q + 1), add-mul q 1 d)

-- two numbers that are equally near are neighbours, of which one is odd: there is one nearest number only where a half goes to the even one
pub half_even_one : {n d p q : ℕ} → 0 < d → NearestHalfEven n d p → NearestHalfEven n d q → p ≡ q
half_even_one {n} {d} {p} {q} above h g = elim (dec_le p q) [
  | yes a ↦ elim (dec_le q p) [ yes b ↦ le_antisymm a b | no b ↦ absurd (apart h g (lt_of_not-le b)) ]
  | no a ↦ absurd (apart g h (lt_of_not-le a))
]
  where
    apart : {p q : ℕ} → NearestHalfEven n d p → NearestHalfEven n d q → p < q → ⊥
    apart {p} {q} h g l =
        let near : q < p + 2 = lt_of_mul-lt-mul_right d (omega (arith, above, nearest_below n d q above g, nearest_above n d p above h, add-mul p 2 d)) in
        let same : distance n d p ≡ distance n d q = le_antisymm (h.none_nearer q) (g.none_nearer p) in
        let even : p % 2 ≡ 0 = h.half q (sym same) (λ e. omega arith) in
        let even-too : q % 2 ≡ 0 = g.half p same (λ e. omega arith) in
        omega arith

half_down_below : (n d q : ℕ) → 0 < d → NearestHalfDown n d q → 2 * (q * d) < 2 * n + d
half_down_below n d zero above h = omega (arith, zero-mul d)
half_down_below n d (suc q) above h =
    lt_of_not-le (λ e. not-le_of_lt (lt-suc_self q) (h.half q (omega (arith, nearest_below n d (suc q) above h, suc-mul q d))))

-- two parts of a whole, one with an exact half down and one with an exact half up, are together not longer than it
pub halves_fit : (n m d p q whole : ℕ) → 0 < d → NearestHalfDown n d p → NearestHalfUp m d q → n + m ≤ whole * d → p + q ≤ whole
halves_fit n m d p q whole above lower higher fit =
    let less : p + q < whole + 1 = lt_of_mul-lt-mul_right d
    (omega (arith, half_down_below n d p above lower, nearest_below m d q above higher, add-mul p q d, add-mul whole 1 d)) in
    omega arith
