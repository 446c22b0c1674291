-- `client::demands::in_memory` meets its contract: the promises of its calls, one after the other, and the planner's theorem.
use Rattle.line.specs.Chains.{none, next}
use Rattle.planner.proofs.Demand.{demand3}
use Rattle.client.proofs.demands.in_memory.Goals as goal

pub returns : goal.returns
returns c = λ passed.
    demand3 c.fresh-made.ensures passed (next c.add-first.ensures (next c.add-second.ensures (next c.take-third.ensures none))) c.told-told.ensures c.shown-shown.ensures
