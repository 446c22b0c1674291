-- `report::counting::count_rows`: before row k the figures are those of the rows before it. From the laws of rows.
use Rattle.std.proofs.Common.{◌∙◌}
use Rattle.report.proofs.Rows.{rows_none}
use Rattle.report.proofs.counting.count_rows.Goals as goal

pub loop-k-init : goal.loop-k-init
loop-k-init c = let a = c.args in c.none-f.ensures ∙ rows_none a.tape.sheet.now a.tape.plan.now
