-- `machine::measure::speed_of` meets its contract, from the moves and the speed limit of each axis.
use mathlib.Core.Path.{◌∙◌}
use native.Mathlib.Omega.{arith}
use Rattle.machine.specs.Numbers.{each_axis, speed_of}
use Rattle.machine.proofs.Bounds.{in_range, moves_below, short}
use Rattle.machine.proofs.measure.speed_of.Goals as goal

pub each_axis-requires : goal.each_axis-requires
each_axis-requires c =
    let b = c.args.b in
    let passed = c.requires.1 in
    (omega (arith, (in_range b passed).feed_below), omega (arith, c.requires.2, short b passed), c.requires.0.1, rw c.moves_of.ensures (moves_below b passed))

pub returns : goal.returns
unfolding speed_of
returns c =
    c.each_axis.ensures ∙ (λ i. each_axis c.args.b.feed c.args.l.speed (c.requires.2 i) (c.moves_of.ensures i))
