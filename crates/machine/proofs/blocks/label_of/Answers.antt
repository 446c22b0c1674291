-- `machine::blocks::label_of` meets its contract: the mark is the label.
use mathlib.Core.Path.{refl}
use Rattle.machine.specs.Labels.{label_of}
use Rattle.machine.proofs.blocks.label_of.Goals as goal

pub returns : goal.returns
unfolding label_of
returns c = refl
