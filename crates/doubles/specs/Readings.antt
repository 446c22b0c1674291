-- Document 02, Q-5: a double times 1,000, rounded to the nearest whole number, the half to even, exactly from the double's own bits.
-- A double is the toolchain's `Float`: `nan`, an infinity, or `fin s m e`, which is m × 2 ^ e, below 0 where s is true.
use Rattle.std.specs.Prelude.{◌≡◌, ℕ, zero, suc, ◌+◌, ◌*◌, ◌/◌, ◌%◌, ◌^◌, ◌<◌, Bool, cond, leb, eqb, Float, ℤ, Result, Ok, Err}
use Rattle.std.specs.Float.{nan, inf, fin, binary64}
use Rattle.std.specs.Float.Ieee.{of_fields, up, down}
use Rattle.std.specs.Float.Ieee.Nearest.{closest}
use Rattle.arith.specs.Signed.{signed_by}
use Rattle.display.specs.declared.Refusal.{Refusal}
use Rattle.display.specs.declared.Refusal.TheVariants.{NotFinite, Beyond}

-- the greatest whole number that is read, either way
abbrev pub most_read : ℕ
most_read = 1_000_000_000

-- a finite double whose magnitude, times 1,000 and rounded, is n
abbrev pub reading_by : (negative : Bool) → (n : ℕ) → Result ℤ Refusal
reading_by negative n = cond (leb n most_read) (Ok (signed_by negative n)) (Err Beyond)

-- 1,000 × m × 2 ^ e to the nearest whole number, an exact half to the even one: 2 ^ e is the fraction up e / down e, and `closest a b` is
-- the whole number nearest to a / b (the law `reading_nearest`)
unfoldable pub thousandths : (m : ℕ) (e : ℤ) → ℕ
thousandths m e = closest (m * up e * 1000) (down e)

-- what a double is read as
unfoldable pub reading_of : Float → Result ℤ Refusal
unfolding thousandths
reading_of nan = Err NotFinite
reading_of (inf s) = Err NotFinite
reading_of (fin s m e) = reading_by s (thousandths m e)

-- the smallest double above 0 is 2 ^ -1074
abbrev pub smallest : ℕ
smallest = 1074

-- the magnitude of a finite double in units of the smallest, from the exponent's field and the 52 digits of its pattern
unfoldable pub units_of : (exponent digits : ℕ) → ℕ
units_of zero digits = digits
units_of (suc x) digits = (2 ^ 52 + digits) * 2 ^ x

-- 1,000 times that magnitude, to the nearest whole number, an exact half to the even one
abbrev pub magnitude_of : (exponent digits : ℕ) → ℕ
magnitude_of exponent digits = closest (units_of exponent digits * 1000) (2 ^ smallest)

-- the same reading from a pattern of 64 bits: its sign, its exponent's field, 2047 for an infinity or a NaN, and its digits (the law
-- `reading_bits`)
unfoldable pub pattern_reading : (bits : ℕ) → Result ℤ Refusal
unfolding units_of
pattern_reading bits =
    cond (eqb (bits % 2 ^ 63 / 2 ^ 52) 2047) (Err NotFinite)
    (reading_by (leb (2 ^ 63) bits) (magnitude_of (bits % 2 ^ 63 / 2 ^ 52) (bits % 2 ^ 52)))

-- the parts of a double's pattern
pub record FieldsOf (x : Float) (negative : Bool) (exponent digits : ℕ) : Type 0 where
  pub is : x ≡ of_fields binary64 negative exponent digits
  pub exponent_fits : exponent < 2048
  pub digits_fit : digits < 2 ^ 52
