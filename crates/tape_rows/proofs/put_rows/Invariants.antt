-- `tape_rows::put_rows`: before row k those before it are stored. From the laws of a tape's rows.
use Rattle.std.proofs.Common.{◌≡◌, ◌*◌, take}
use Rattle.tape_rows.specs.Rows.{row_size, rows_from, sheet_row}
use Rattle.tape_rows.proofs.put_rows.Given as goal

abbrev pub invariant-loop-k : goal.invariant-loop-k
invariant-loop-k l = take (row_size * l.k) l.list ≡ rows_from (sheet_row l.s l.tape.sheet.now l.tape.plan.now) 0 l.k
