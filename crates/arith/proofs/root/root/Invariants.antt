-- `arith::root::root` meets its contract. The invariant: r is above 0, at least the root, and its square fits; Newton's laws keep it. The measure is r.
use Rattle.std.proofs.Common.{◌+◌, ◌*◌, ◌^◌, ◌<◌}
use Rattle.arith.proofs.root.root.Given as goal

abbrev pub invariant-loop-below : goal.invariant-loop-below
invariant-loop-below l = (0 < l.r) × (l.r < 2 ^ 32) × (l.n < (l.r + 1) * (l.r + 1))

abbrev pub decreases-loop-below : goal.decreases-loop-below
decreases-loop-below l = l.r
