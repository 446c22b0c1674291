-- `tape::records::read_record` meets its contract, from what `decode_record` and `check_block` ensure.
use mathlib.Core.Path.{◌≡◌, sym, ap, ◌∙◌}
use Rattle.std.proofs.Common.{rules, Err}
use Rattle.machine.specs.Checks.{block_refusal}
use Rattle.display.specs.declared.Refusal.TheVariants as why
use Rattle.display.specs.Display.{checked_means}
use Rattle.tape.specs.Answers.{read_record, record_read_refusal}
use Rattle.display.proofs.Answers.{gives, refuses_by}
use Rattle.tape.proofs.Checks.{record_short, record_long}
use Rattle.tape.proofs.records.read_record.Goals as goal
use Rattle.tape.proofs.records.read_record.Goals.{After-check_block}

-- the number, once the block is checked
number : (c : After-check_block) → record_read_refusal c.args.s.now ≡ checked_means c.check_block.result
number c =
    record_long _ c.if-s-lt-RECORD_BYTES.false ∙ ap block_refusal (sym c.decode_record-b.ensures) ∙ sym c.check_block.ensures

pub returns-then-s-lt-RECORD_BYTES : goal.returns-then-s-lt-RECORD_BYTES
unfolding read_record
returns-then-s-lt-RECORD_BYTES c = refuses_by _ why.Ragged (record_short _ c.if-s-lt-RECORD_BYTES.true)

pub returns-in_err-check_block : goal.returns-in_err-check_block
unfolding read_record
returns-in_err-check_block c =
    let r = c.in_err-check_block.field-0.0 in
    let e : c.from_residual.result ≡ Err r = search rules in
    rw e (refuses_by _ r (number (goal.at.returns-in_err-check_block c).After-check_block ∙ ap checked_means c.in_err-check_block.was))

pub returns : goal.returns
unfolding read_record
returns c = gives _ _ (number (goal.at.returns c).After-check_block ∙ ap checked_means c.in_ok-check_block.was) c.decode_record-b.ensures
