-- `doubles::fields_of` meets its contract: a double is what its pattern is read as, and the pattern's fields are in their ranges.
use mathlib.Core.Path.{sym, ap, ◌∙◌}
use native.Mathlib.Omega.{arith}
use denote.Floats.{passes}
use lib.Ieee.{binary64, fits, of_bits}
use lib.Ieee.Bits.{of_bits-to_bits}
use Rattle.doubles.proofs.fields_of.Goals as goal

pub returns : goal.returns
unfolding of_bits
returns c =
    let x = c.args.x in
    record {
      is = sym (of_bits-to_bits binary64 x (passes (fits binary64 x) c.well_formed.0.1)) ∙ ap (of_bits binary64) (sym c.bits_of-bits.ensures);
      exponent_fits = omega arith;
      digits_fit = omega arith;
    }
