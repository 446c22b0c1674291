-- `planner::told`: the number kept, but no more than there are places.
use Rattle.planner.specs.View.{view_of}
use Rattle.planner.proofs.Outcomes.{told_is}
use Rattle.planner.proofs.told.Goals as goal

pub returns : goal.returns
unfolding view_of
returns c = told_is _ _ c.min.ensures
