-- `planner::memory::brake_at`: the backward step on the numbers of a place.
use Rattle.planner.specs.View.{place_from}
use Rattle.planner.proofs.memory.brake_at.Goals as goal

pub returns : goal.returns
unfolding place_from
returns c = c.brake_from.ensures
