-- `rs274::kept::Kept::write` meets its contract, by whether the records have room.
use Rattle.std.proofs.Common.{◌*◌, take}
use Rattle.tape.specs.Tape.{record_bytes}
use Rattle.rs274.proofs.Records.{kept_written}
use Rattle.rs274.proofs.kept.Kept.write.Goals as goal

pub returns : goal.returns
returns c =
    let s = c.args.self.now in
    kept_written s.count (take (record_bytes * s.count) s.bytes) c.args.records.now c.put_bytes.ensures c.in_ok-ok_or.ensures.ok_part
