-- `rs274::kept::is_still` meets its contract, from the moves on each axis.
use mathlib.Core.Path.{ap, ◌∙◌}
use mathlib.Core.Bool.{◌&&◌}
use lib.Dec.{eqb}
use Rattle.machine.specs.Checks.{greatest_move, moves_of}
use Rattle.machine.specs.declared.Axes.{Axes}
use Rattle.rs274.proofs.Positions.{still}
use Rattle.rs274.proofs.kept.is_still.Goals as goal

pub returns : goal.returns
unfolding greatest_move
returns c =
    let a = moves_of c.args.b in
    ap (λ (v : Axes). (eqb v.x 0 && eqb v.y 0) && eqb v.z 0) c.moves_of-m.ensures ∙ still a.x a.y a.z
