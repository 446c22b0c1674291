-- `tape_rows::list_tape`: the answer of planning decides, and then the list's length. From the laws of a planned tape, of its rows and of lent lists.
use Rattle.std.proofs.Common.{ℕ, ◌*◌, arith, ap, ◌∙◌}
use Rattle.tapeplan.proofs.Sized.{filled_whole}
use Rattle.tapeplan.proofs.Wholes.{planned_few, planned_passed}
use Rattle.tape_rows.specs.Rows.{row_size, rows_from, rows_size, tape_rows}
use Rattle.tape_rows.proofs.TapeRows.{planned_rows}
use Rattle.tape_rows.proofs.list_tape.Goals as goal

pub put_rows-requires : goal.put_rows-requires
put_rows-requires c =
    let w = c.plan_on_work_sheet.ensures in
    let few = planned_few w c.in_ok-plan_on_work_sheet.was in
    (omega (arith, c.records_in-n.ensures), omega (arith, few, c.records_in-n.ensures), c.if-list-n.false)

pub returns : goal.returns
returns c =
    let a = c.args in
    let w = c.plan_on_work_sheet.ensures in
    let is = c.in_ok-plan_on_work_sheet.was in
    filled_whole a.s.now a.steps.now (rows_size a.s.now) (tape_rows a.s.now a.steps.now) a.list.now (planned_passed w is)
    (c.if-list-n.false ∙ ap (λ (n : ℕ). row_size * n) c.records_in-n.ensures)
    (c.put_rows.ensures ∙ ap (rows_from _ 0) c.records_in-n.ensures ∙ planned_rows w is)
