-- `client::demands::of_tape` meets its contract: the promise of `plan_tape`, and the tape's theorem.
use Rattle.tapeplan.proofs.Demand.{tape_demand3}
use Rattle.client.proofs.demands.of_tape.Goals as goal

pub returns : goal.returns
returns c = λ passed steps fits. tape_demand3 c.plan_tape.ensures passed steps fits
