-- `planner::ring::stay`: the walk that is left comes to the end of the whole walk.
use Rattle.std.proofs.Common.{◌≡◌, ◌<◌}
use Rattle.profile.specs.Stairs.{stay_from}
use Rattle.line.specs.Blocks.{most_held}
use Rattle.line.specs.Ring.{stair_at, stay_in}
use Rattle.planner.specs.View.{view_of}
use Rattle.planner.proofs.ring.stay.Given as goal

abbrev pub invariant-loop-s : goal.invariant-loop-s
invariant-loop-s l = (l.s < most_held) × (stay_from (stair_at (view_of l.memory)) l.s l.allows ≡ stay_in (view_of l.memory) l.cap)

abbrev pub decreases-loop-s : goal.decreases-loop-s
decreases-loop-s l = l.s
