-- `order_text::events::order_of`: the kind decides.
use mathlib.Core.Path.{◌≡◌, refl, sym, ap, ◌∙◌}
use Prim.Native.Nat.{ℕ, zero, suc}
use native.Mathlib.Omega.{arith}
use lib.Ieee.{Float}
use Rattle.host.specs.declared.orders.Point.{Point}
use Rattle.host.specs.declared.orders.Order.TheVariants.{Rapid, Feed, CurveChord}
use Rattle.order_text.specs.Orders.{double_in, point_in, order_by, order_of}
use Rattle.order_text.proofs.events.order_of.Goals as goal

-- a kind that is neither 1 nor 2
chord : (kind : ℕ) (target : Point) (speed radius : Float) → (kind ≡ 1 → ⊥) → (kind ≡ 2 → ⊥) → CurveChord target speed radius ≡ order_by kind target speed radius
chord zero target speed radius one two = refl
chord (suc zero) target speed radius one two = absurd (one refl)
chord (suc (suc zero)) target speed radius one two = absurd (two refl)
chord (suc (suc (suc kind))) target speed radius one two = refl

pub returns-in-1 : goal.returns-in-1
unfolding order_of
returns-in-1 c =
    let bytes = c.args.bytes.now in
    ap Rapid c.point_in-target.ensures ∙ ap (λ (kind : ℕ). order_by kind (point_in bytes 0) (double_in bytes 6) (double_in bytes 7)) (sym c.in-1.is)

pub returns-in-2 : goal.returns-in-2
unfolding order_of
returns-in-2 c =
    let bytes = c.args.bytes.now in
    (λ i. Feed (c.point_in-target.ensures i) (c.double_in.ensures i))
    ∙ ap (λ (kind : ℕ). order_by kind (point_in bytes 0) (double_in bytes 6) (double_in bytes 7)) (sym c.in-2.is)

pub returns-in_default : goal.returns-in_default
unfolding order_of
returns-in_default c =
    (λ i. CurveChord (c.point_in-target.ensures i) (c.double_in-in_default.ensures i) (c.double_in-in_default-2.ensures i))
    ∙ chord c.args.kind _ _ _ (λ e. omega (arith, e)) (λ e. omega (arith, e))
