-- `report::held::held_back`: the answer of planning decides, and then the list's length. From the laws of an accepted tape and of answers.
use Rattle.std.proofs.Common.{ℕ, ◌-◌, ap, ◌∙◌, arith}
use Rattle.report.specs.Counts.{list_from}
use Rattle.tapeplan.proofs.Sized.{filled_whole}
use Rattle.tapeplan.proofs.Wholes.{planned_few, planned_passed}
use Rattle.report.specs.Held.{held_list, inner_in}
use Rattle.report.proofs.Accepted.{planned_held}
use Rattle.report.proofs.held.held_back.Goals as goal

pub store_held-requires : goal.store_held-requires
store_held-requires c =
    let w = c.plan_on_work_sheet.ensures in
    let few = planned_few w c.in_ok-plan_on_work_sheet.was in
    let size = c.if-list-saturating_sub.false ∙ c.saturating_sub.ensures ∙ ap (λ (n : ℕ). n - 1) c.records_in.ensures in
    omega (arith, few, size)

pub returns : goal.returns
returns c =
    let a = c.args in
    let w = c.plan_on_work_sheet.ensures in
    let is = c.in_ok-plan_on_work_sheet.was in
    let size = c.if-list-saturating_sub.false ∙ c.saturating_sub.ensures ∙ ap (λ (n : ℕ). n - 1) c.records_in.ensures in
    filled_whole a.s.now a.steps.now (inner_in a.s.now) (held_list a.s.now a.steps.now) a.list.now (planned_passed w is) size (c.store_held.ensures ∙ ap (list_from _ 0) size ∙ planned_held w is)
