-- `client::demands::for_c` meets its contract: the promises of the functions for C, and their theorem.
use Rattle.arith.proofs.SignedLaws.{read_back_lem}
use Rattle.fullerecru.specs.Planners.{none, add_next, take_next}
use Rattle.fullerecru.proofs.Demand.{exported_demand3}
use Rattle.client.proofs.demands.for_c.Goals as goal

pub returns : goal.returns
returns c = λ passed.
    let same = read_back_lem c.ranges.x in
    exported_demand3 c.fullerecru_fresh-made.ensures passed
    (add_next (rw same at c.fullerecru_add-first.ensures) (add_next (rw same at c.fullerecru_add-second.ensures) (take_next c.fullerecru_take-third.ensures none)))
    c.fullerecru_told-told.ensures c.fullerecru_shown-shown.ensures
