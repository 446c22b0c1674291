-- `fullerecru::texts::fullerecru_text`: the promise of `text_records` by number, line and number of blocks.
use Rattle.fullerecru.proofs.LentTexts.{text_written_lem, text_refused}
use Rattle.fullerecru.proofs.texts.fullerecru_text.Goals as goal

pub returns-in-Ok : goal.returns-in-Ok
returns-in-Ok c =
    text_written_lem _ _ c.in-Ok.count (rw c.in-Ok.is at c.text_records.ensures) c.put_number.ensures c.put_number-in-Ok.ensures

pub returns-in-Err : goal.returns-in-Err
returns-in-Err c =
    text_refused _ _ _ c.in-Err.fault (rw c.in-Err.is at c.text_records.ensures) c.refused_number.ensures.1 c.refused_number.ensures.0
