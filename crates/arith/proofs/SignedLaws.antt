-- Laws of signed numbers at 64 bits: what fits, what the machine reads back, and the gap. From the laws of ℤ.
use Rattle.std.proofs.Common.{◌≡◌, ℕ, zero, suc, ◌+◌, ◌-◌, ◌*◌, ◌^◌, ◌<◌, ◌≤◌, Bool, true, false, cond, ltb, ℤ, pos, negsuc, ◌+ℤ◌, ◌-ℤ◌, ◌*ℤ◌, neg_ℤ, nat_abs, refl, ◌∙◌, le_refl, arith, to_z-of_z, w64, SFits, to_z, of_z, ltb-true}
use lib.IntN.{sub_ℕ}
use lib.Signed.{mag, lt_z}
use Rattle.arith.specs.Signed.{gap_of, or_zero}

-- a number as the machine reads it back from its bits
abbrev pub read_back : ℤ → ℤ
read_back z = to_z w64 (of_z w64 z)

pub read_back_lem : {z : ℤ} → SFits w64 z → read_back z ≡ z
read_back_lem f = to_z-of_z f

-- the same of a struct's field, of which the checker tells the bound alone
pub field_back : (z : ℤ) → mag z < 2 ^ 63 → read_back z ≡ z
field_back z h = read_back_lem (record { sfits = h })

pub mag_le : (z : ℤ) → mag z ≤ nat_abs z
mag_le (pos n) = le_refl n
mag_le (negsuc n) = omega arith

-- a number of magnitude below 2^63 fits
pub fits_small : (z : ℤ) → nat_abs z < 2 ^ 63 → SFits w64 z
fits_small z h = record { sfits = omega (arith, mag_le z) }

-- and is read back as it is
pub small_back : (z : ℤ) → nat_abs z < 2 ^ 63 → read_back z ≡ z
small_back z h = read_back_lem (fits_small z h)

pub nat_abs_neg : (z : ℤ) → nat_abs (neg_ℤ z) ≡ nat_abs z
nat_abs_neg (pos zero) = refl
nat_abs_neg (pos (suc n)) = refl
nat_abs_neg (negsuc n) = refl

-- the magnitude of a product
pub nat_abs_product : (x y : ℤ) → nat_abs (x *ℤ y) ≡ nat_abs x * nat_abs y
nat_abs_product (pos a) (pos b) = refl
nat_abs_product (pos a) (negsuc b) = nat_abs_neg (pos (a * suc b))
nat_abs_product (negsuc a) (pos b) = nat_abs_neg (pos (suc a * b))
nat_abs_product (negsuc a) (negsuc b) = refl

nat_abs_difference : (a b : ℕ) → nat_abs (sub_ℕ a b) ≤ a + b
nat_abs_difference a b = go (ltb a b) refl
  where
    go : (t : Bool) → ltb a b ≡ t → nat_abs (cond t (negsuc (b - suc a)) (pos (a - b))) ≤ a + b
    go true e = omega (arith, ltb-true a b e)
    go false e = omega arith

-- the magnitude of a sum
pub nat_abs_sum : (x y : ℤ) → nat_abs (x +ℤ y) ≤ nat_abs x + nat_abs y
nat_abs_sum (pos a) (pos b) = le_refl (a + b)
nat_abs_sum (pos a) (negsuc b) = nat_abs_difference a (suc b)
nat_abs_sum (negsuc a) (pos b) = omega (arith, nat_abs_difference b (suc a))
nat_abs_sum (negsuc a) (negsuc b) = omega arith

-- the magnitude of a difference
pub nat_abs_minus : (x y : ℤ) → nat_abs (x -ℤ y) ≤ nat_abs x + nat_abs y
nat_abs_minus x y = omega (arith, nat_abs_sum x (neg_ℤ y), nat_abs_neg y)

-- the sign that the machine sees is the number's
pub sign_back : {z : ℤ} {b : Bool} → SFits w64 z → lt_z (read_back z) (pos 0) ≡ b → lt_z z (pos 0) ≡ b
sign_back f e = rw (read_back_lem f) at e

-- a number below 0, and one that is not
pub negative : (x : ℤ) → lt_z x (pos 0) ≡ true → (n : ℕ) × (x ≡ negsuc n)
negative (pos n) e = absurd (omega (arith, ltb-true n 0 e))
negative (negsuc n) e = (n, refl)

pub not_negative : (x : ℤ) → lt_z x (pos 0) ≡ false → x ≡ pos (nat_abs x)
not_negative (pos n) e = refl
not_negative (negsuc n) e = absurd (differ e)
  where
    differ : true ≡ false → ⊥
    differ p = let z : ◌≡◌ {A = ℕ} 0 1 = cc in omega arith

-- p minus n, for a whole number n
pub gap_positive : (p n : ℕ) → p - n ≡ gap_of p (pos n)
gap_positive p zero = omega arith
gap_positive p (suc n) = go (ltb p (suc n)) refl
  where
    go : (t : Bool) → ltb p (suc n) ≡ t → p - suc n ≡ or_zero (cond t (negsuc (suc n - suc p)) (pos (p - suc n)))
    go true e = omega (arith, ltb-true p (suc n) e)
    go false e = refl

-- a sum or a product f of two numbers, as the machine computes it of numbers read back
pub both_back : (f : ℤ → ℤ → ℤ) {x y : ℤ} → SFits w64 x → SFits w64 y → f (read_back x) (read_back y) ≡ f x y
both_back f h g = λ i. f (read_back_lem h i) (read_back_lem g i)

pub times_back : (r x y : ℤ) → nat_abs x < 2 ^ 63 → nat_abs y < 2 ^ 63 → r ≡ read_back x *ℤ read_back y → r ≡ x *ℤ y
times_back r x y h g e = e ∙ both_back ◌*ℤ◌ (fits_small x h) (fits_small y g)

pub plus_back : (r x y : ℤ) → nat_abs x < 2 ^ 63 → nat_abs y < 2 ^ 63 → r ≡ read_back x +ℤ read_back y → r ≡ x +ℤ y
plus_back r x y h g e = e ∙ both_back ◌+ℤ◌ (fits_small x h) (fits_small y g)

-- the gap is at most the sum of the magnitudes
pub gap_below : (p : ℕ) (s : ℤ) → gap_of p s ≤ p + nat_abs s
gap_below p (pos n) = omega (arith, gap_positive p n)
gap_below p (negsuc n) = le_refl (p + suc n)
