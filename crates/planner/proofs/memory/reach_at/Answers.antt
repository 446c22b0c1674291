-- `planner::memory::reach_at`: one number of a place.
use Rattle.std.proofs.Common.{refl}
use Rattle.planner.specs.View.{place_from}
use Rattle.planner.proofs.memory.reach_at.Goals as goal

pub returns : goal.returns
unfolding place_from
returns c = refl
