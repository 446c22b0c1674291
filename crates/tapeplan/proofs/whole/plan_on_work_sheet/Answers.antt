-- `tapeplan::whole::plan_on_work_sheet`: the part of the list that is lent has a number for each junction of the tape. From `whole_planned`.
use mathlib.Core.Path.{◌∙◌}
use native.Mathlib.Omega.{arith}
use borrow.Author.Rules.{rules}
use Rattle.tapeplan.proofs.Wholes.{whole_planned}
use Rattle.tapeplan.proofs.whole.plan_on_work_sheet.Goals as goal

pub returns : goal.returns
returns c =
    let a = c.args in
    whole_planned a.s.now a.steps.now a.plan.now (omega (arith, c.min-junctions.ensures, c.records_in.ensures)) (search rules) (c.plan_surveyed.auto.work ∙ search rules) c.plan_surveyed.ensures
