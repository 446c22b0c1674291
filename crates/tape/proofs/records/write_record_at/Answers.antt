-- `tape::records::write_record_at` meets its contract, from what `write_record` ensures of the part that it is lent.
use Rattle.tape.proofs.Written.{written_part}
use Rattle.tape.proofs.records.write_record_at.Goals as goal

pub returns : goal.returns
returns c =
    let a = c.args in
    written_part a.b a.k a.tape.now c.start_within-from.result c.start_within-from.ensures c.write_record.ensures
