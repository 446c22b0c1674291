-- `machine::corner::under_corner` meets its contract: without a turn it is the cap; else the product with the square of the jump goes to the capped quotient whole.
use mathlib.Core.Path.{ap, sym, ◌∙◌}
use Prim.Native.Nat.{ℕ, ◌*◌, ◌^◌, ◌-◌, ◌<◌}
use native.Mathlib.Nat.{mul-le-mul}
use native.Mathlib.Omega.{arith}
use Rattle.arith.specs.Quotient.{capped_quotient}
use Rattle.machine.proofs.Dots.{turn_below, corner_quotient, corner_straight}
use Rattle.machine.proofs.corner.under_corner.Goals as goal
use Rattle.machine.proofs.corner.under_corner.Goals.{Start}

lengths : (c : Start) → c.args.length_a * c.args.length_b < 2 ^ 60
lengths c = omega (arith, mul-le-mul {n₁ = c.args.length_a} {m₁ = c.args.length_b} {n₂ = 2 ^ 30 - 1} {m₂ = 2 ^ 30 - 1} (omega (arith, c.requires.1)) (omega (arith, c.requires.2)))

pub returns-then-turned-eq0 : goal.returns-then-turned-eq0
returns-then-turned-eq0 c =
    let a = c.args in
    sym (corner_straight a.cap a.jump (a.length_a * a.length_b) _ (sym c.turn-turned.ensures ∙ c.if-turned-eq0.true))

pub overflow_mul-turned : goal.overflow_mul-turned
overflow_mul-turned c =
    record { fits = omega (arith, c.turn-turned.ensures, turn_below (c.args.length_a * c.args.length_b) c.args.a c.args.b (lengths c.before.before) c.requires.3 c.requires.4) }

pub returns : goal.returns
returns c =
    let a = c.args in
    c.capped_quotient.ensures
    ∙ ap (λ (n : ℕ). capped_quotient a.cap (a.jump * a.jump * (a.length_a * a.length_b)) (2 * n)) c.turn-turned.ensures
    ∙ corner_quotient a.cap a.jump (a.length_a * a.length_b) _
