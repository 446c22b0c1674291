-- `rs274::whole::text_records` meets its contract, by what reading the lines comes to.
use Rattle.std.proofs.Common.{rules, ◌≡◌, Err}
use Rattle.rs274.proofs.Records.{text_refused, text_written_lem}
use Rattle.rs274.proofs.whole.text_records.Goals as goal

pub returns-in_err-read_lines : goal.returns-in_err-read_lines
returns-in_err-read_lines c =
    let r = c.in_err-read_lines.field-0.0 in
    let e : c.from_residual.result ≡ Err r = search rules in
    rw e (text_refused c.args.text.now c.args.records.now r c.read_lines.new.kept c.in_err-read_lines.ensures)

pub returns : goal.returns
returns c =
    text_written_lem c.args.text.now c.args.records.now c.read_lines.new.kept c.write.result c.write.new.records c.in_ok-read_lines.ensures c.write.ensures
