-- `planner::memory::numbers_in`: four numbers of a place.
use Rattle.std.proofs.Common.{refl}
use Rattle.planner.specs.View.{place_from}
use Rattle.planner.proofs.memory.numbers_in.Goals as goal

pub returns : goal.returns
unfolding place_from
returns c = refl
