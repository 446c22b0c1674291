-- `report::tapes::figures_of`: the answer of planning decides. From the laws of an accepted tape's figures.
use Rattle.std.proofs.Common.{◌≡◌, rules, sym, refl, ap, ◌∙◌, subst, Err}
use Rattle.tapeplan.specs.Planned.{whole_fault}
use Rattle.report.specs.Figures.{figures_of, tape_figures}
use Rattle.report.specs.Rows.{Countable, row_figures}
use Rattle.tapeplan.proofs.Wholes.{planned_passed}
use Rattle.report.proofs.Accepted.{planned_countable, planned_figures}
use Rattle.report.proofs.Answers.{figured_given, figured_refused}
use Rattle.report.proofs.tapes.figures_of.Goals as goal

pub returns-in_err-plan_on_work_sheet : goal.returns-in_err-plan_on_work_sheet
unfolding tape_figures
returns-in_err-plan_on_work_sheet c =
    let a = c.args in
    let r = c.in_err-plan_on_work_sheet.field-0.0 in
    let e : c.from_residual.result ≡ Err r = search rules in
    rw e (figured_refused (whole_fault a.s.now a.steps.now) (figures_of a.s.now a.steps.now) r.why r.place (c.in_err-plan_on_work_sheet.ensures).fault)

-- a tape that is planned
pub count_rows-requires : goal.count_rows-requires
count_rows-requires c =
    subst (Countable _ _) (sym c.records_in.ensures) (planned_countable c.plan_on_work_sheet.ensures c.in_ok-plan_on_work_sheet.was refl)

pub returns : goal.returns
unfolding tape_figures
returns c =
    let w = c.plan_on_work_sheet.ensures in
    let is = c.in_ok-plan_on_work_sheet.was in
    let a = c.args in
    figured_given (whole_fault a.s.now a.steps.now) (figures_of a.s.now a.steps.now) (planned_passed w is)
    (c.count_rows.ensures ∙ ap (row_figures _ _) c.records_in.ensures ∙ planned_figures w is)
