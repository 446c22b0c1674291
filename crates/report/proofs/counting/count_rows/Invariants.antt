-- `report::counting::count_rows`: before row k the figures are those of the rows before it. From the laws of rows.
use Rattle.std.proofs.Common.{◌≡◌}
use Rattle.report.specs.Rows.{row_figures}
use Rattle.report.proofs.counting.count_rows.Given as goal

abbrev pub invariant-loop-k : goal.invariant-loop-k
invariant-loop-k l = l.f ≡ row_figures l.tape.sheet.now l.tape.plan.now l.k
