-- `report::held::store_held`: what is left to store leads to the end. From the laws of copies and of lists.
use Rattle.std.proofs.Common.{◌+◌, length, sym, ◌∙◌, arith, rules}
use Rattle.profile.specs.Line.{number_at}
use Rattle.report.proofs.Copies.{copy_all}
use Rattle.report.specs.Rows.{held_from, row_held}
use Rattle.report.proofs.Rows.{held_between, list_length, list_next, over_all}
use Rattle.report.proofs.held.store_held.Invariants.{target}
use Rattle.report.proofs.held.store_held.Goals as goal

pub loop-i-preserved : goal.loop-i-preserved
loop-i-preserved c =
    let a = c.args in
    let i = c.loop-i.i in
    let stored =
    c.number.ensures ∙ c.held_by.ensures ∙ (λ j. held_from (c.row-a.ensures j) (c.row-b.ensures j) (number_at a.tape.plan.now (i + 1)))
    ∙ held_between a.tape.sheet.now a.tape.plan.now i in
    list_next (row_held a.tape.sheet.now a.tape.plan.now) a.list.now c.loop-i.list i _ (search rules) stored c.loop-i.invariant

pub returns : goal.returns
returns c =
    let a = c.args in
    let end = target a.tape.sheet.now a.tape.plan.now a.list.now in
    let size = list_length (row_held a.tape.sheet.now a.tape.plan.now) 0 (length a.list.now) in
    copy_all end a.list.now c.loop-i.list c.loop-i.i (omega (arith, size)) (omega (arith, size)) c.loop-i.invariant
    ∙ over_all end a.list.now (sym size)
