-- Worked readings, from patterns: exact halves, doubles beside a half, the ends of what is read, and doubles that are not finite. The
-- definitions compute.
use mathlib.Core.Path.{◌≡◌, refl}
use Prim.Native.Nat.{ℕ}
use lib.IntN.{pos, negsuc}
use lib.Ieee.{binary64, of_bits}
use Rattle.doubles.specs.Readings.{reading_of}
use Rattle.std.specs.Prelude.{ℤ, Result, Ok, Err}
use Rattle.display.specs.declared.Refusal.{Refusal}
use Rattle.display.specs.declared.Refusal.TheVariants.{NotFinite, Beyond}

-- what a pattern of 64 bits is read as
abbrev reads : (bits : ℕ) → Result ℤ Refusal
reads bits = reading_of (of_bits binary64 bits)

-- 0.0625 is 62.5 thousandths, an exact half: to the even 62
half_of_62 : reads 0x3fb0_0000_0000_0000 ≡ Ok (pos 62)
unfolding reading_of of_bits
half_of_62 = refl

-- 0.1875 is 187.5: to the even 188
half_of_187 : reads 0x3fc8_0000_0000_0000 ≡ Ok (pos 188)
unfolding reading_of of_bits
half_of_187 = refl

-- 0.3125 is 312.5: to the even 312
half_of_312 : reads 0x3fd4_0000_0000_0000 ≡ Ok (pos 312)
unfolding reading_of of_bits
half_of_312 = refl

-- 0.4375 is 437.5: to the even 438
half_of_437 : reads 0x3fdc_0000_0000_0000 ≡ Ok (pos 438)
unfolding reading_of of_bits
half_of_437 = refl

-- 0.0005: the double of that name is a little more than half a thousandth
above_half : reads 0x3f40_624d_d2f1_a9fc ≡ Ok (pos 1)
unfolding reading_of of_bits
above_half = refl

-- the double next below it is less than half a thousandth
below_half : reads 0x3f40_624d_d2f1_a9fb ≡ Ok (pos 0)
unfolding reading_of of_bits
below_half = refl

-- 0.0015: a little more than 1.5
above_one_and_a_half : reads 0x3f58_9374_bc6a_7efa ≡ Ok (pos 2)
unfolding reading_of of_bits
above_one_and_a_half = refl

-- 0.0025: a little more than 2.5, so not the even 2
above_two_and_a_half : reads 0x3f64_7ae1_47ae_147b ≡ Ok (pos 3)
unfolding reading_of of_bits
above_two_and_a_half = refl

-- -0.0005: the same below 0
below_zero : reads 0xbf40_624d_d2f1_a9fc ≡ Ok (negsuc 0)
unfolding reading_of of_bits
below_zero = refl

-- 5e-324, the smallest double above 0
smallest_double : reads 0x0000_0000_0000_0001 ≡ Ok (pos 0)
unfolding reading_of of_bits
smallest_double = refl

-- -0.0
minus_zero : reads 0x8000_0000_0000_0000 ≡ Ok (pos 0)
unfolding reading_of of_bits
minus_zero = refl

-- 1000000.0005: a little less than 1,000,000,000.5
most : reads 0x412e_8480_0041_8937 ≡ Ok (pos 1_000_000_000)
unfolding reading_of of_bits
most = refl

-- 1000000.0006: nearest to 1,000,000,001
past_the_most : reads 0x412e_8480_004e_a4a9 ≡ Err Beyond
unfolding reading_of of_bits
past_the_most = refl

-- the greatest finite double
greatest_double : reads 0x7fef_ffff_ffff_ffff ≡ Err Beyond
unfolding reading_of of_bits
greatest_double = refl

-- the infinities
infinity : reads 0x7ff0_0000_0000_0000 ≡ Err NotFinite
unfolding reading_of of_bits
infinity = refl

minus_infinity : reads 0xfff0_0000_0000_0000 ≡ Err NotFinite
unfolding reading_of of_bits
minus_infinity = refl

-- two NaNs, with digits of their own
payload : reads 0x7ff8_0000_0000_0abc ≡ Err NotFinite
unfolding reading_of of_bits
payload = refl

minus_payload : reads 0xfff0_0000_0000_0001 ≡ Err NotFinite
unfolding reading_of of_bits
minus_payload = refl
