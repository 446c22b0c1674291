-- `order_text::events::event_of`: the kind decides.
use mathlib.Core.Path.{◌≡◌, refl, sym, ap, ◌∙◌}
use Prim.Native.Nat.{ℕ, zero, suc}
use native.Mathlib.Omega.{arith}
use Rattle.host.specs.declared.orders.Point.{Point}
use Rattle.host.specs.declared.orders.Order.{Order}
use Rattle.host.specs.declared.orders.Event.TheVariants as event
use Rattle.order_text.specs.Orders.{kind_in, point_in, order_of, event_by, event_of}
use Rattle.order_text.proofs.events.event_of.Goals as goal

-- a kind that is not 0
ordered : (kind : ℕ) (o : Order) (offset : Point) → (kind ≡ 0 → ⊥) → event.Order o offset ≡ event_by kind o offset
ordered zero o offset h = absurd (h refl)
ordered (suc kind) o offset h = refl

pub returns-in-0 : goal.returns-in-0
unfolding event_of
returns-in-0 c =
    let bytes = c.args.bytes.now in
    ap (λ (kind : ℕ). event_by kind (order_of (kind_in bytes) bytes) (point_in bytes 3)) (sym c.in-0.is ∙ c.read_field.ensures.is)

pub returns-in_default : goal.returns-in_default
unfolding event_of
returns-in_default c =
    let bytes = c.args.bytes.now in
    (λ i. event.Order ((c.order_of.ensures ∙ ap (λ (kind : ℕ). order_of kind bytes) c.read_field.ensures.is) i) (c.point_in.ensures i))
    ∙ ordered (kind_in bytes) _ _ (λ z. omega (arith, c.read_field.ensures.is, z))
