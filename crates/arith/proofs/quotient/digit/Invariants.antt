-- `arith::quotient::digit` meets its contract. The invariant: q is a digit that is not too small, and its product with d's leading half is within `high`. The measure is q.
use Rattle.std.proofs.Common.{◌+◌, ◌*◌, ◌/◌, ◌^◌, ◌<◌, ◌≤◌}
use Rattle.arith.proofs.Division.{two_digits}
use Rattle.arith.proofs.quotient.digit.Given as goal

abbrev pub invariant-loop-left : goal.invariant-loop-left
invariant-loop-left l = (l.q < 2 ^ 32) × (l.q * (l.d / 2 ^ 32) ≤ l.high) × (two_digits l.high l.low < (l.q + 1) * l.d)

abbrev pub decreases-loop-left : goal.decreases-loop-left
decreases-loop-left l = l.q
