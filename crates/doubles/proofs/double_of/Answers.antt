-- `doubles::double_of` meets its contract: above the infinity's pattern, the sign apart, every pattern is a NaN's, and std's NaN is the NaN.
use mathlib.Core.Path.{◌≡◌, refl, sym, subst, ◌∙◌}
use mathlib.Core.Bool.{true}
use borrow.Author.Tests.{lt-ltb, le-ltb}
use lib.Dec.{T}
use lib.Ieee.{Float, nan, inf, fin, binary64, is_nan, of_bits}
use lib.Ieee.Bits.{nan_bits_above, nan_bits_is}
use Rattle.doubles.proofs.double_of.Goals as goal

only_nan : (x : Float) → is_nan x ≡ true → nan ≡ x
unfolding is_nan
only_nan nan e = refl
only_nan (inf s) e = absurd (subst T (sym e) tt)
only_nan (fin s m e) h = absurd (subst T (sym h) tt)

none : of_bits binary64 0x7ff8_0000_0000_0000 ≡ nan
unfolding of_bits
none = refl

pub returns-then-bits : goal.returns-then-bits
returns-then-bits c =
    let bits = c.args.bits in
    none ∙ only_nan (of_bits binary64 bits) (sym (nan_bits_is binary64 bits) ∙ nan_bits_above binary64 bits ∙ lt-ltb _ _ c.if-bits.true)

pub float_from_bits-result : goal.float_from_bits-result
float_from_bits-result c = rw (nan_bits_above binary64 c.args.bits, le-ltb _ _ c.if-bits.false) tt
