-- `ramps::peak_of` meets its contract.
use Rattle.machine.specs.Numbers.{peak_of}
use Rattle.ramps.proofs.peak_of.Goals as goal

pub returns : goal.returns
unfolding peak_of
returns c = c.min.ensures
