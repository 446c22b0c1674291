-- `machine::measure::chord_factor` meets its contract: e is not above the radius, so the products have at most 50 bits and the
-- difference is not below 0.
use mathlib.Core.Path.{ap}
use Prim.Native.Nat.{ℕ, ◌*◌, ◌-◌, ◌≤◌}
use native.Mathlib.Nat.{mul-le-mul}
use native.Mathlib.Omega.{arith}
use Rattle.machine.specs.Ranges.{most_radius}
use Rattle.machine.specs.Numbers.{chord_factor}
use Rattle.machine.proofs.measure.chord_factor.Goals as goal
use Rattle.machine.proofs.measure.chord_factor.Goals.{After-min-e}

-- e is not above the radius
below : (c : After-min-e) → c.min-e.result ≤ c.args.radius
below c = omega (arith, c.min-e.ensures)

-- its products with the radius and with itself are not above the square of the greatest radius
products : (c : After-min-e)
    → let e = c.min-e.result in (e * c.args.radius ≤ most_radius * most_radius) × (e * e ≤ most_radius * most_radius)
products c =
    let most : c.min-e.result ≤ most_radius = omega (arith, below c, c.requires) in
    (mul-le-mul most c.requires, mul-le-mul most most)

pub returns : goal.returns
unfolding chord_factor
returns c = ap (λ (e : ℕ). 8 * e * c.args.radius - 4 * e * e) c.min-e.ensures
