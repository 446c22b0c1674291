-- `client::hosted::one_rapid` meets its contract: the promises of fresh, order, told and position at the worked order.
use mathlib.Core.Path.{refl}
use borrow.Author.Tests.{eq-eqb}
use Rattle.client.proofs.Rapid.{one_told, point_given}
use Rattle.client.proofs.hosted.one_rapid.Goals as goal

pub expect-requires : goal.expect-requires
expect-requires c =
    eq-eqb _ _
    (one_told c.limits_m.ensures c.fresh.ensures c.fresh-2.ensures refl refl c.order.ensures
    c.told.ensures)

pub expect-requires-2 : goal.expect-requires-2
expect-requires-2 c =
    point_given c.limits_m.ensures c.fresh.ensures c.fresh-2.ensures refl refl c.order.ensures
    c.position-p.ensures
