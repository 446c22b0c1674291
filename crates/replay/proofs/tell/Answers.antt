-- `replay::tell` meets its contract: what is told fits the list, from `told_plan`.
use mathlib.Core.Path.{sym}
use Rattle.replay.proofs.Runs.{lent_long, told_plan}
use Rattle.replay.proofs.tell.Goals as goal

pub slice_bounds-shown-end-2 : goal.slice_bounds-shown-end-2
slice_bounds-shown-end-2 c =
    sym (lent_long c.args.plan.now c.told-told.ensures c.requires)

pub returns : goal.returns
returns c =
    told_plan c.args.plan.now c.shown.new.list c.told-told.ensures c.shown.ensures c.requires c.shown.auto.list
