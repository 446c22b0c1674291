-- `arith::root::root` meets its contract. The invariant: r is above 0, at least the root, and its square fits; Newton's laws keep it. The measure is r.
use Rattle.std.proofs.Common.{◌/◌, ◌<◌, ◌≤◌, arith}
use Rattle.arith.proofs.RootLaws.{newton_above, newton_falls}
use Rattle.arith.proofs.root.root.Goals as goal
use Rattle.arith.proofs.root.root.Goals.{Else-below-n}

-- r is at least 2, and above n / r
falls : (c : Else-below-n) → (2 ≤ c.loop-below.r) × (c.args.n / c.loop-below.r < c.loop-below.r)
falls c = newton_falls _ _ c.if-below-n.false

pub loop-below-preserved : goal.loop-below-preserved
loop-below-preserved c = (omega (arith, (falls c).0), omega (arith, (falls c).1), newton_above _ _ (omega (arith, (falls c).0)))
