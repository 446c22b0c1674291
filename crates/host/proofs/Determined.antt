-- Carrying out an order has one outcome: two that meet its promise are equal, whatever the memory and the host's numbers hold. From the planner's law.
use mathlib.Core.List.{List}
use mathlib.Core.Path.{◌≡◌, refl, sym, ap, ◌∙◌}
use Prim.Native.Nat.{ℕ, zero, suc}
use native.Mathlib.Omega.{arith}
use Rattle.line.specs.Answers.{Answer}
use Rattle.planner.proofs.Determined.{called_one}
use Rattle.host.specs.Fields.{readings_of, order_fault}
use Rattle.host.specs.Calls.{Ordered, host_after}
use Rattle.host.specs.declared.orders.Order.{Order}
use Rattle.host.specs.declared.orders.Point.{Point}

pub ordered_one : {m h a b c d : List ℕ} {o : Order} {offset : Point} {s t : Answer} → Ordered m h o offset s a c → Ordered m h o offset t b d
    → (s ≡ t) × ((a ≡ b) × (c ≡ d))
ordered_one {h} {a} {b} {c} {d} {o} {offset} {s} {t} p q = go (order_fault o offset) refl
  where
    hosts : s ≡ t → c ≡ d
    hosts e = p.host_is ∙ ap (λ (x : Answer). host_after x h (readings_of o offset)) e ∙ sym q.host_is

    go : (n : ℕ) → order_fault o offset ≡ n → (s ≡ t) × ((a ≡ b) × (c ≡ d))
    go zero e = let both = called_one (p.block e) (q.block e) in (both.0, (both.1, hosts both.0))
    go (suc n) e =
        let x = p.field (omega (arith, e)) in
        let y = q.field (omega (arith, e)) in
        let said = x.0 ∙ sym y.0 in
        (said, (x.1 ∙ sym y.1, hosts said))
