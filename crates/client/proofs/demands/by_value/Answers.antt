-- `client::demands::by_value` meets its contract, in the same way.
use Rattle.line.specs.Chains.{none, next}
use Rattle.planner.proofs.Demand.{demand3}
use Rattle.client.proofs.demands.by_value.Goals as goal

pub returns : goal.returns
returns c = λ passed.
    demand3 c.fresh-fresh.ensures passed (next c.add-one.ensures (next c.add-two.ensures (next c.take-out.ensures none))) c.told-told.ensures c.shown-shown.ensures
