-- `tape::records::write_record` meets its contract, from what `check_block` and `store_record` ensure.
use mathlib.Core.Path.{◌≡◌, sym, ap, ◌∙◌}
use native.Mathlib.Omega.{arith}
use lib.Dec.{lit<}
use Rattle.std.proofs.Common.{rules, Err}
use Rattle.display.specs.declared.Refusal.TheVariants as why
use Rattle.display.specs.Display.{checked_means}
use Rattle.tape.specs.Answers.{record_written}
use Rattle.display.proofs.Answers.{refusal_above}
use Rattle.tape.proofs.Answers.{enough, too_few, wrote_none, wrote_all}
use Rattle.tape.proofs.Checks.{record_fields, record_room}
use Rattle.tape.proofs.Fits.{block_fits}
use Rattle.tape.proofs.records.write_record.Goals as goal

pub returns-in_err-check_block : goal.returns-in_err-check_block
unfolding record_written
returns-in_err-check_block c =
    let r = c.in_err-check_block.field-0.0 in
    let e : c.from_residual.result ≡ Err r = search rules in
    let f = sym c.check_block.ensures ∙ ap checked_means c.in_err-check_block.was in
    rw e (wrote_none _ _ (Err r) (refusal_above r) (sym (record_fields _ _ (rw f (refusal_above r)) ∙ f)))

pub returns-then-out-lt-RECORD_BYTES : goal.returns-then-out-lt-RECORD_BYTES
unfolding record_written
returns-then-out-lt-RECORD_BYTES c =
    let passed = sym c.in_ok-check_block.ensures in
    wrote_none _ _ (Err why.Ragged) (lit< tt) (sym (record_room _ _ passed ∙ too_few _ c.args.out.now c.if-out-lt-RECORD_BYTES.true))

pub store_record-requires : goal.store_record-requires
store_record-requires c = (omega arith, block_fits _ (sym c.in_ok-check_block.ensures))

pub returns : goal.returns
unfolding record_written
returns c =
    let passed = sym c.in_ok-check_block.ensures in
    wrote_all _ _ (record_room _ _ passed ∙ enough _ c.args.out.now c.if-out-lt-RECORD_BYTES.false) c.store_record.ensures
