-- `machine::corner::corner_beside` meets its contract, from what the smaller cap and `under_corner` ensure.
use mathlib.Core.Path.{ap, ◌∙◌}
use Prim.Native.Nat.{ℕ, ◌+◌, ◌*◌}
use Rattle.machine.specs.Numbers.{turn_from, corner_from, under_cap, corner_beside}
use Rattle.machine.proofs.corner.corner_beside.Goals as goal

pub returns : goal.returns
unfolding corner_beside
returns c =
    let a = c.args in
    let product = a.na.length * a.nb.length in
    c.under_corner.ensures ∙ ap (λ (n : ℕ). under_cap (corner_from a.jump product (turn_from product a.a a.b)) (n + 1)) c.min-least.ensures
