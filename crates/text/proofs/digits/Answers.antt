-- `text::digits`: from the k-th power of ten on there are k + 1, from `length_power`; and 0 has one.
use mathlib.Core.Path.{sym}
use native.Mathlib.Omega.{arith}
use Rattle.text.proofs.Decimal.{length_one, length_power}
use Rattle.text.proofs.digits.Goals as goal

pub returns-in-Some : goal.returns-in-Some
returns-in-Some c =
    let e = c.in-Some.ensures in
    record { is = sym (length_power c.in-Some.power c.args.n e.power_le e.next_power_gt); positive = omega arith; few = omega (arith, e.bound) }

pub returns-in-None : goal.returns-in-None
returns-in-None c = record { is = sym (length_one c.args.n (omega (arith, c.in-None.ensures.none))); positive = omega arith; few = omega arith }
