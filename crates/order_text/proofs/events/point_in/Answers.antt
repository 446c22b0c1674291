-- `order_text::events::point_in`: coordinate by coordinate.
use Rattle.order_text.specs.Orders.{point_in}
use Rattle.order_text.proofs.events.point_in.Goals as goal

pub returns : goal.returns
unfolding point_in
returns c =
    λ i. record { x = c.double_in.ensures i; y = c.double_in-2.ensures i; z = c.double_in-3.ensures i }
