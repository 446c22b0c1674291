-- `arith::quotient::digit` meets its contract. The invariant: q is a digit that is not too small, and its product with d's leading half is within `high`. The measure is q.
use Rattle.std.proofs.Common.{◌+◌, ◌-◌, ◌*◌, ◌/◌, ◌^◌, ◌<◌, ◌≤◌, sym, le-div_iff_mul-le, arith}
use native.Mathlib.Nat.{min-le_left, div-eq_of_lt-le}
use Rattle.arith.proofs.Division.{two_digits, first_try, digit_fits, digit_surely_fits, digit_too_large}
use Rattle.arith.proofs.quotient.digit.Goals as goal
use Rattle.arith.proofs.quotient.digit.Goals.{Else-q-d}

-- where the digit does not fit, it is above 0 and one less serves
lowered : (c : Else-q-d) →
    (0 < c.loop-left.q)
    × (two_digits c.args.high c.args.low < (c.loop-left.q - 1 + 1) * c.args.d)
    × ((c.loop-left.q - 1) * (c.args.d / 2 ^ 32) ≤ c.args.high)
lowered c =
    let a = c.args in
    digit_too_large a.high a.low a.d c.loop-left.q c.loop-left.invariant.1 c.if-q-d.false

pub loop-left-init : goal.loop-left-init
loop-left-init c =
    let a = c.args in
    rw c.min-q.ensures (
      omega arith,
      (le-div_iff_mul-le {k = a.d / 2 ^ 32} (omega arith)).0 (min-le_left (a.high / (a.d / 2 ^ 32)) (2 ^ 32 - 1)),
      first_try a.high a.low a.d c.requires.0 c.requires.1 c.requires.2,
    )

pub loop-left-preserved : goal.loop-left-preserved
loop-left-preserved c = (omega arith, (lowered c).2, (lowered c).1)

pub returns-then-left-ge-BASE : goal.returns-then-left-ge-BASE
returns-then-left-ge-BASE c =
    let a = c.args in
    let inv = c.loop-left.invariant in
    sym (div-eq_of_lt-le a.d (digit_surely_fits a.high a.low a.d _ inv.0 inv.1 c.if-left-ge-BASE.true) inv.2)

pub returns-then-q-d : goal.returns-then-q-d
returns-then-q-d c =
    let a = c.args in
    let inv = c.loop-left.invariant in
    sym (div-eq_of_lt-le a.d (digit_fits a.high a.low a.d _ inv.1 c.if-q-d.true) inv.2)
