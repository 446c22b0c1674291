-- `ramps::ramp_between` meets its contract, by the two answers of the test.
use Rattle.std.proofs.Common.{sym, ◌∙◌}
use Rattle.machine.proofs.Rampables.{rampable_says}
use Rattle.ramps.proofs.ramp_between.Goals as goal
use Rattle.ramps.proofs.ramp_between.Goals.{After-is_rampable}

pub ramp-requires : goal.ramp-requires
ramp-requires c =
    let a = c.args in
    rampable_says a.n a.entry a.exit (sym c.is_rampable.ensures ∙ c.if-is_rampable.true)
