-- `machine::check::greatest_move` meets its contract, from the moves.
use mathlib.Core.Path.{ap, ◌∙◌}
use Prim.Native.Nat.{max}
use Rattle.machine.specs.Checks.{greatest_move}
use Rattle.machine.specs.declared.Axes.{Axes}
use Rattle.machine.proofs.check.greatest_move.Goals as goal

pub returns : goal.returns
unfolding greatest_move
returns c =
    c.max-2.ensures
    ∙ ap (max c.moves_of-m.result.x) c.max.ensures
    ∙ ap (λ (m : Axes). max m.x (max m.y m.z)) c.moves_of-m.ensures
