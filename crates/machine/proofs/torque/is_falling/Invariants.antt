-- `machine::torque::is_falling`: the steps before the next one have passed, and `most` is the last of them.
use mathlib.Core.Path.{◌≡◌}
use lib.ListN.{drop}
use Rattle.machine.specs.Ranges.{most_percent}
use Rattle.machine.specs.Torque.{falling}
use Rattle.machine.proofs.torque.is_falling.Given as goal

abbrev pub invariant-loop-step : goal.invariant-loop-step
invariant-loop-step l = falling most_percent l.steps ≡ falling l.most (drop l.step-index l.steps)
