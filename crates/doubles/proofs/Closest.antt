-- `closest n d` is the whole number nearest to n / d, an exact half to the even one. From the laws of comparing, of division, and of
-- arith's nearest numbers.
use mathlib.Core.Path.{◌≡◌, refl, sym, subst, ◌∙◌}
use mathlib.Core.Bool.{not}
use Prim.Native.Nat.{ℕ, suc, ◌+◌, ◌*◌, ◌/◌, ◌%◌, ◌≤◌, ◌<◌, compare, Ordering}
use native.Mathlib.Nat.{lt_of_not-le, mod-lt, mod-eq_of_lt, div-eq_of_lt, div-add-mod', add-mul, suc-mul, mul-le-mul_right}
use native.Mathlib.Decide.{dec_le}
use native.Mathlib.Omega.{arith}
use lib.Dec.{T, is_le, compare_is_eq, eqb, leb→le, nleb→lt, eqb→eq, eqb_refl}
use lib.Ieee.{nearest}
use lib.Ieee.Nearest.{closest}
use Rattle.arith.specs.Nearest.{NearestHalfEven}
use Rattle.arith.proofs.NearestLaws.{half_even}

-- the toolchain's choice by a comparison
module _ (q a b : ℕ) where
  nearest_less : a < b → nearest q (compare a b) ≡ q
  nearest_less h = go (compare a b) (nleb→lt a b) (eqb→eq a b)
    where
      go : (o : Ordering) → (T (not (is_le o)) → b < a) → (T (compare_is_eq o) → a ≡ b) → nearest q o ≡ q
      go Ordering.lt k e = refl
      go Ordering.eq k e = let f : a ≡ b = e tt in absurd (omega arith)
      go Ordering.gt k e = let f : b < a = k tt in absurd (omega arith)

  nearest_more : b < a → nearest q (compare a b) ≡ suc q
  nearest_more h = go (compare a b) (leb→le a b)
    where
      go : (o : Ordering) → (T (is_le o) → a ≤ b) → nearest q o ≡ suc q
      go Ordering.lt k = let f : a ≤ b = k tt in absurd (omega arith)
      go Ordering.eq k = let f : a ≤ b = k tt in absurd (omega arith)
      go Ordering.gt k = refl

  nearest_tie : a ≡ b → nearest q (compare a b) ≡ q + q % 2
  nearest_tie h = go (compare a b) (subst (λ (x : ℕ). T (eqb a x)) h (eqb_refl a))
    where
      go : (o : Ordering) → T (compare_is_eq o) → nearest q o ≡ q + q % 2
      go Ordering.lt t = absurd t
      go Ordering.eq t = refl
      go Ordering.gt t = absurd t

-- less than half of the divisor is nearest to 0
pub closest_small : (n d : ℕ) → n * 2 < d → 0 ≡ closest n d
closest_small n d h =
    let l : n < d = omega arith in
    sym ((λ i. nearest (div-eq_of_lt l i) (compare (mod-eq_of_lt l i * 2) d)) ∙ nearest_less 0 (n * 2) d h)

-- the quotient, the next number, and the even one of the two are nearest in these cases
module _ (n d : ℕ) (above : 0 < d) where
  quotient_nearest : n % d * 2 < d → NearestHalfEven n d (n / d)
  quotient_nearest h = half_even n d (n / d) (omega (arith, div-add-mod' n d)) (omega (arith, div-add-mod' n d)) (λ e. absurd (omega (arith, e, div-add-mod' n d)))

  next_nearest : d < n % d * 2 → NearestHalfEven n d (suc (n / d))
  next_nearest h =
      half_even n d (suc (n / d))
      (omega (arith, div-add-mod' n d, suc-mul (n / d) d))
      (omega (arith, div-add-mod' n d, suc-mul (n / d) d, mod-lt n above))
      (λ e. absurd (omega (arith, e, div-add-mod' n d, suc-mul (n / d) d, mod-lt n above)))

  even_nearest : n % d * 2 ≡ d → NearestHalfEven n d (n / d + n / d % 2)
  even_nearest h =
      let q = n / d in
      let step : q % 2 * d ≤ 1 * d = mul-le-mul_right d (omega arith) in
      half_even n d (q + q % 2)
      (omega (arith, div-add-mod' n d, add-mul q (q % 2) d, step))
      (omega (arith, div-add-mod' n d, add-mul q (q % 2) d, step))
      (λ e. even q)
    where
      even : (q : ℕ) → (q + q % 2) % 2 ≡ 0
      even q = omega arith

-- `closest n d` is the whole number nearest to n / d
pub closest_nearest : (n d : ℕ) → 0 < d → NearestHalfEven n d (closest n d)
closest_nearest n d above = elim (dec_le d (n % d * 2)) [
  | yes h ↦ elim (dec_le (n % d * 2) d) [
    | yes k ↦ rw (nearest_tie (n / d) (n % d * 2) d (omega arith)) (even_nearest n d above (omega arith))
    | no k ↦ rw (nearest_more (n / d) (n % d * 2) d (lt_of_not-le k)) (next_nearest n d above (lt_of_not-le k))
  ]
  | no h ↦ rw (nearest_less (n / d) (n % d * 2) d (lt_of_not-le h)) (quotient_nearest n d above (lt_of_not-le h))
]
