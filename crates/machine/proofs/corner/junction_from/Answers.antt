-- `machine::corner::junction_from` meets its contract: a cap under the corner between the two blocks.
use mathlib.Core.Path.{ap, ◌∙◌}
use Prim.Native.Nat.{◌*◌}
use Rattle.machine.specs.Numbers.{turn_from, corner_from, under_cap, junction_from}
use Rattle.machine.proofs.corner.junction_from.Goals as goal

pub returns : goal.returns
unfolding junction_from
returns c =
    let a = c.args in
    let product = a.na.length * a.nb.length in
    c.under_corner.ensures ∙ ap (under_cap (corner_from a.jump product (turn_from product a.a a.b))) c.min-cap.ensures
