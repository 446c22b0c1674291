-- `machine::torque::built_in` meets its contract: the number is that of the eight percentages.
use mathlib.Core.Path.{refl}
use Rattle.fields.specs.Bytes.{number_of}
use Rattle.fields.specs.Layouts.{joined}
use Rattle.machine.proofs.torque.built_in.Goals as goal

pub returns : goal.returns
unfolding number_of joined
returns c = refl
