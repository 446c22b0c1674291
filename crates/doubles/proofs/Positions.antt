-- Whole numbers as doubles: up to 2 ^ 53 either way nothing is lost, none is a NaN or -0.0, and different numbers are different doubles.
-- From the toolchain's laws of casts.
use mathlib.Core.Path.{◌≡◌, refl, sym, ap, subst, ◌∙◌}
use mathlib.Core.Bool.{true, false, not}
use Prim.Native.Nat.{suc, ◌^◌, ◌≤◌, zero-le}
use native.Mathlib.Nat.{le_trans, lt_of_le_of_lt}
use borrow.Author.Tests.{le-ltb}
use lib.Dec.{T, le→leb, lit<, lit≤}
use lib.IntN.{ℤ, pos, negsuc, nat_abs}
use lib.Ieee.{Float, nan, inf, fin, binary64, in_float, in_signed, is_nan, of_int, to_bits, to_signed, whole}
use lib.Ieee.Back.{negative_back, positive_back, round_whole}
use lib.Ieee.Exact.{HasValue}
use lib.Signed.{lt_z}

-- the machine converts such a number,
pub whole_fits : (z : ℤ) → nat_abs z ≤ 2 ^ 53 → T (in_float binary64 z)
unfolding in_float
whole_fits (pos n) h = le→leb n (2 ^ 53) h
whole_fits (negsuc n) h = le→leb (suc n) (2 ^ 53) h

-- and back, to 63 bits and a sign
back : (z : ℤ) → nat_abs z ≤ 2 ^ 53 → T (in_signed binary64 63 (of_int binary64 z)) × (to_signed 63 (of_int binary64 z) ≡ z)
back (pos n) h = positive_back binary64 63 n (whole_fits (pos n) h) (lt_of_le_of_lt h (lit< tt))
back (negsuc n) h = negative_back binary64 63 n (whole_fits (negsuc n) h) (le_trans h (lit≤ tt))

-- the double is exactly that number: its sign, and its magnitude over 1
pub position_value : (z : ℤ) → nat_abs z ≤ 2 ^ 53 → HasValue (of_int binary64 z) (lt_z z (pos 0)) (nat_abs z) 1
unfolding of_int
position_value (pos n) h = rw (le-ltb n 0 zero-le) (round_whole binary64 false n h)
position_value (negsuc n) h = round_whole binary64 true (suc n) h

-- and the number comes back from it
pub position_exact : (z : ℤ) → nat_abs z ≤ 2 ^ 53 → to_signed 63 (of_int binary64 z) ≡ z
position_exact z h = (back z h).1

-- so different numbers are different doubles
pub position_one : (y z : ℤ) → nat_abs y ≤ 2 ^ 53 → nat_abs z ≤ 2 ^ 53 → of_int binary64 y ≡ of_int binary64 z → y ≡ z
position_one y z h g e = sym (position_exact y h) ∙ ap (to_signed 63) e ∙ position_exact z g

-- none is a NaN
pub position_number : (z : ℤ) → nat_abs z ≤ 2 ^ 53 → T (not (is_nan (of_int binary64 z)))
unfolding in_signed is_nan
position_number z h = number (of_int binary64 z) (back z h).0
  where
    number : (x : Float) → T (in_signed binary64 63 x) → T (not (is_nan x))
    number nan t = absurd t
    number (inf s) t = tt
    number (fin s m e) t = tt

-- none is -0.0
pub position_not_minus_zero : (z : ℤ) → nat_abs z ≤ 2 ^ 53 → of_int binary64 z ≡ fin true 0 (pos 0) → ⊥
unfolding in_signed whole
position_not_minus_zero z h e = subst (λ (x : Float). T (in_signed binary64 63 x)) e (back z h).0

-- 0 is 0.0, whose bits are all 0
pub position_zero : of_int binary64 (pos 0) ≡ fin false 0 (pos 0)
unfolding of_int
position_zero = refl

pub position_zero_bits : to_bits binary64 (of_int binary64 (pos 0)) ≡ 0
unfolding of_int to_bits
position_zero_bits = refl
