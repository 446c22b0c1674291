-- `machine::measure::each_axis` meets its contract, axis by axis.
use mathlib.Core.Path.{ap, ◌∙◌}
use Prim.Native.Nat.{ℕ, ◌^◌, ◌<◌}
use native.Mathlib.Omega.{arith}
use Rattle.machine.specs.Numbers.{axis_limit, each_axis}
use Rattle.machine.proofs.Limited.{axis_below}
use Rattle.machine.proofs.measure.each_axis.Goals as goal
use Rattle.machine.proofs.measure.each_axis.Goals.{After-axis_limit-x, After-axis_limit-y}

first_below : (c : After-axis_limit-x) → c.axis_limit-x.result < 2 ^ 32
first_below c = let a = c.args in omega (arith, c.axis_limit-x.ensures, axis_below a.cap a.limits.x a.length a.m.x, c.requires.0)

pub axis_limit-y-requires : goal.axis_limit-y-requires
axis_limit-y-requires c = let p = c.requires in (first_below c, p.2.1, p.1, p.3.1)

second_below : (c : After-axis_limit-y) → c.axis_limit-y.result < 2 ^ 32
second_below c = let a = c.args in omega (arith, c.axis_limit-y.ensures, axis_below c.axis_limit-x.result a.limits.y a.length a.m.y, first_below c.before)

pub axis_limit-requires : goal.axis_limit-requires
axis_limit-requires c = let p = c.requires in (second_below c, p.2.2, p.1, p.3.2)

pub returns : goal.returns
unfolding each_axis
returns c =
    let a = c.args in
    c.axis_limit.ensures
    ∙ ap (λ (n : ℕ). axis_limit n a.limits.z a.length a.m.z) (c.axis_limit-y.ensures ∙ ap (λ (n : ℕ). axis_limit n a.limits.y a.length a.m.y) c.axis_limit-x.ensures)
