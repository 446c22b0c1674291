-- `replay::calls::write_row`: each case of the answer has its row.
use mathlib.Core.Path.{ap, ◌∙◌}
use Rattle.replay.specs.Rows.{row_from, row_of}
use Rattle.replay.proofs.calls.write_row.Goals as goal

pub returns-in-None : goal.returns-in-None
unfolding row_of
returns-in-None c =
    rw (c.in-Ok.is, c.in-None.is) (c.store_row.ensures ∙ ap (row_from 0) c.no_given.ensures)

pub returns-in-Some : goal.returns-in-Some
unfolding row_of
returns-in-Some c = rw (c.in-Ok.is, c.in-Some.is) c.store_row-in-Some.ensures

pub returns-in-Err : goal.returns-in-Err
unfolding row_of
returns-in-Err c =
    rw c.in-Err.is (c.store_row-in-Err.ensures ∙ (λ i. row_from (c.refusal_number.ensures i) (c.no_given-in-Err.ensures i)))
