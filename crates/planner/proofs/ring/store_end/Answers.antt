-- `planner::ring::store_end`: the stair of the end, its number and the total, from `ended_is`.
use Rattle.planner.specs.View.{view_of}
use Rattle.planner.proofs.Climbs.{ended_is}
use Rattle.planner.proofs.ring.store_end.Goals as goal

pub returns : goal.returns
unfolding view_of
returns c =
    ended_is c.args.memory.now c.store_stair.new.memory c.args.before c.args.reach c.args.total c.stair_place-at.result
    c.told-memory c.stair_place-at.ensures.0 c.store_stair.ensures
