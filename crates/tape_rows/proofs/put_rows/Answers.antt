-- `tape_rows::put_rows`: before row k those before it are stored. From the laws of a tape's rows.
use Rattle.std.proofs.Common.{◌+◌, ◌-◌, ◌*◌, length, rules, ap}
use Rattle.tape_rows.specs.Rows.{row_size, sheet_row}
use Rattle.tape_rows.proofs.TapeRows.{rows_none, rows_stored}
use Rattle.tape_rows.proofs.put_rows.Goals as goal

pub loop-k-init : goal.loop-k-init
loop-k-init c = let a = c.args in rows_none (sheet_row a.s.now a.tape.sheet.now a.tape.plan.now) a.list.now

pub loop-k-preserved : goal.loop-k-preserved
loop-k-preserved c =
    let a = c.args in
    let k = c.loop-k.k in
    rows_stored (sheet_row a.s.now a.tape.sheet.now a.tape.plan.now) c.loop-k.list c.put_row.new.row k (row_size * k + row_size - row_size * k) (search rules) c.loop-k.invariant
    c.put_row.ensures (ap length c.put_row.ensures)
