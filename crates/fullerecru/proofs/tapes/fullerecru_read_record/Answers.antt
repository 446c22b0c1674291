-- `fullerecru::tapes::fullerecru_read_record`: the answer of `read_record` by its number.
use mathlib.Core.Path.{sym, ap, ◌∙◌}
use Rattle.display.specs.Display.{outcome_of, refused}
use Rattle.fullerecru.proofs.FromBytes.{block_given, block_refused}
use Rattle.fullerecru.proofs.tapes.fullerecru_read_record.Goals as goal

pub returns-in-Err : goal.returns-in-Err
returns-in-Err c =
    let a = c.args in
    block_refused a.bytes.now a.moves.now a.numbers.now
    (ap refused c.refusal_number.ensures ∙ ap outcome_of (sym c.in-Err.is) ∙ c.read_record.ensures)

pub returns-in-Ok : goal.returns-in-Ok
returns-in-Ok c =
    let a = c.args in
    block_given a.bytes.now a.moves.now a.numbers.now (ap outcome_of (sym c.in-Ok.is) ∙ c.read_record.ensures) c.put_block.ensures
