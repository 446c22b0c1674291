-- `replay::begin`: the limits of a trace are read, and the steps decide.
use mathlib.Core.Path.{sym}
use Rattle.replay.proofs.Heads.{begun_fresh}
use Rattle.replay.proofs.begin.Goals as goal

pub returns : goal.returns
returns c =
    let a = c.args in
    begun_fresh a.trace.now a.steps.now (sym c.in_ok-l.ensures) c.fresh.ensures
