-- `tape_rows::store_row`: the numbers of a block given out and the two behind them fill the row. From the law of a run of numbers stored.
use Rattle.std.proofs.Common.{slice_set, ◌∙◌}
use Rattle.machine.proofs.Runs.{sets_all}
use Rattle.tape_rows.specs.Rows.{row_from}
use Rattle.tape_rows.proofs.store_row.Goals as goal

pub returns : goal.returns
returns c =
    let a = c.args in
    (λ i. slice_set (slice_set (c.store_given_numbers.ensures i) 11 a.cap) 12 a.junction) ∙ sets_all (row_from a.g a.cap a.junction) a.row.now c.requires
