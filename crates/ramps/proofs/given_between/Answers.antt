-- `ramps::given_between` meets its contract, from the ramp.
use Rattle.line.specs.Answers.{given_between}
use Rattle.ramps.proofs.given_between.Goals as goal

pub returns : goal.returns
unfolding given_between
returns c =
    let a = c.args in
    λ i. record { block = a.b; length = a.n.length; accel = a.n.accel; entry = a.entry; exit = a.exit; ramp = c.ramp_between.ensures i }
