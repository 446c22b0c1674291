-- `planner::ring::lower`: one law for each way out.
use Rattle.std.proofs.Common.{refl}
use Rattle.planner.specs.View.{view_of}
use Rattle.planner.proofs.Climbs.{lowered_gone, lowered_left}
use Rattle.planner.proofs.ring.lower.Goals as goal

pub returns-then-left-eq0 : goal.returns-then-left-eq0
unfolding view_of
returns-then-left-eq0 c =
    lowered_gone c.args.memory.now c.stair_place-at.result c.args.reach c.saturating_sub-left.result c.saturating_sub.result c.told-memory c.stair_place-at.ensures.0
    c.saturating_sub-left.ensures c.saturating_sub.ensures _ _ c.if-left-eq0.true refl c.saturating_sub-before.ensures

pub returns : goal.returns
unfolding view_of
returns c =
    lowered_left c.args.memory.now c.stair_place-at.result c.args.reach c.saturating_sub-left.result c.saturating_sub.result c.told-memory c.stair_place-at.ensures.0
    c.saturating_sub-left.ensures c.saturating_sub.ensures c.if-left-eq0.false
