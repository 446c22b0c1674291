-- `rs274::tapes::put_tape` meets its contract, by whether the limits are right and what the text comes to.
use Rattle.std.proofs.Common.{rules, ◌≡◌, Err, refl}
use Rattle.rs274.proofs.Making.{after_length, head_long, limits_right, limits_wrong, line_is, n_few, nothing_written, tape_stored}
use Rattle.rs274.proofs.tapes.put_tape.Goals as goal

pub returns-in_err-read_limits : goal.returns-in_err-read_limits
returns-in_err-read_limits c =
    let why = c.in_err-read_limits.field-0.0 in
    let e : c.from_residual.result ≡ Err record { why = why; place = 0 } = search rules in
    rw e (refl, limits_wrong c.args.head.now c.args.text.now why c.in_err-read_limits.ensures)

pub returns-in_err-blocks : goal.returns-in_err-blocks
returns-in_err-blocks c =
    let a = c.args in
    let right = limits_right a.head.now c.in_ok-read_limits.ensures in
    let wrote = c.text_records.ensures in
    let r = c.in_err-blocks.field-0.0 in
    let e : c.from_residual-in_err-blocks.result ≡ Err r = search rules in
    rw e (
      nothing_written a.head.now a.text.now a.out.now right c.requires c.text_records.result c.text_records.new.records wrote r c.in_err-blocks.was,
      line_is a.head.now a.text.now a.out.now right c.requires c.text_records.result c.text_records.new.records wrote r c.in_err-blocks.was,
    )

pub put_limits-requires : goal.put_limits-requires
put_limits-requires c =
    let a = c.args in
    let right = limits_right a.head.now c.in_ok-read_limits.ensures in
    let wrote = c.text_records.ensures in
    let n = c.in_ok-blocks.blocks in (
      head_long a.head.now a.text.now a.out.now right c.requires,
      (
        n_few a.head.now a.text.now a.out.now right c.requires c.text_records.result c.text_records.new.records wrote n c.in_ok-blocks.was,
        after_length a.head.now a.text.now a.out.now right c.requires c.text_records.result c.text_records.new.records wrote n c.in_ok-blocks.was,
      ),
    )

pub returns : goal.returns
returns c =
    let a = c.args in
    let right = limits_right a.head.now c.in_ok-read_limits.ensures in
    tape_stored a.head.now a.text.now a.out.now right c.requires c.text_records.result c.text_records.new.records c.text_records.ensures
    c.in_ok-blocks.blocks c.in_ok-blocks.was c.put_limits.ensures.0 c.put_limits.ensures.1
