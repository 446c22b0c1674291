-- `doubles::magnitude` meets its contract, by the exponent's field: 0, that of a double of 2 ^ 20 or more, or between them.
use mathlib.Core.Path.{ap, ◌∙◌}
use Prim.Native.Nat.{◌+◌, min}
use native.Mathlib.Nat.{le_trans, le_of_lt, pos_of_ne-zero}
use lib.Dec.{lit≤}
use Rattle.doubles.specs.Readings.{most_read}
use Rattle.doubles.proofs.Decoding.{magnitude_tiny, magnitude_far, magnitude_shifted}
use Rattle.doubles.proofs.magnitude.Goals as goal

pub returns-then-exponent-eq0 : goal.returns-then-exponent-eq0
returns-then-exponent-eq0 c =
    magnitude_tiny c.nearest_shift.result c.args.exponent c.args.digits c.if-exponent-eq0.true c.requires.1 c.nearest_shift.ensures

pub returns-then-exponent-ge-FAR : goal.returns-then-exponent-ge-FAR
returns-then-exponent-ge-FAR c = magnitude_far c.args.exponent c.args.digits (le_trans (lit≤ tt) c.if-exponent-ge-FAR.true)

pub returns : goal.returns
returns c =
    c.min.ensures
    ∙ ap (min (most_read + 1))
    (c.nearest_shift-n.ensures
    ∙ magnitude_shifted c.args.exponent c.args.digits (pos_of_ne-zero c.if-exponent-eq0.false) (le_trans (le_of_lt c.if-exponent-ge-FAR.false) (lit≤ tt)))
