-- `report::held::store_held`: what is left to store leads to the end. From the laws of copies and of lists.
use Rattle.std.proofs.Common.{ℕ, List, length}
use Rattle.report.proofs.Copies.{Copying}
use Rattle.report.specs.Counts.{list_from}
use Rattle.report.specs.Rows.{row_held}
use Rattle.report.proofs.held.store_held.Given as goal
use Rattle.tapeplan.specs.declared.Measured.{Measured}

-- what is stored at last
abbrev pub target : (sheet : List Measured) (plan list : List ℕ) → List ℕ
target sheet plan list = list_from (row_held sheet plan) 0 (length list)

abbrev pub invariant-loop-i : goal.invariant-loop-i
invariant-loop-i l = Copying (target l.tape.sheet.now l.tape.plan.now l.initial.list) l.initial.list l.list l.i
