-- `machine::measure::length_of` meets its contract: the sum of squares fits.
use Prim.Native.Nat.{◌*◌, ◌^◌, ◌<◌}
use Rattle.machine.specs.Numbers.{length_from}
use Rattle.machine.proofs.Bounds.{squares_below}
use Rattle.machine.proofs.measure.length_of.Goals as goal
use Rattle.machine.proofs.measure.length_of.Goals.{Start}

squares : (c : Start) → (c.args.m.x * c.args.m.x < 2 ^ 40) × (c.args.m.y * c.args.m.y < 2 ^ 40) × (c.args.m.z * c.args.m.z < 2 ^ 40)
squares c = squares_below c.args.m c.requires

pub returns : goal.returns
unfolding length_from
returns c = c.root.ensures
