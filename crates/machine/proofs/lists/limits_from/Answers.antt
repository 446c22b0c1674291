-- `machine::lists::limits_from` meets its contract: each limit as it stands.
use mathlib.Core.Path.{refl}
use Rattle.machine.specs.Lists.{limits_from}
use Rattle.machine.proofs.lists.limits_from.Goals as goal

pub returns : goal.returns
unfolding limits_from
returns c = refl
