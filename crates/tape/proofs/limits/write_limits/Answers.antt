-- `tape::limits::write_limits` meets its contract, from what `check_limits` and `store_limits` ensure.
use mathlib.Core.Path.{◌≡◌, sym, ap, ◌∙◌}
use native.Mathlib.Omega.{arith}
use lib.Dec.{lit<}
use Rattle.std.proofs.Common.{rules, Err}
use Rattle.display.specs.declared.Refusal.TheVariants as why
use Rattle.display.specs.Display.{checked_means}
use Rattle.tape.specs.Answers.{limits_written}
use Rattle.display.proofs.Answers.{refusal_above}
use Rattle.tape.proofs.Answers.{enough, too_few, wrote_none, wrote_all}
use Rattle.tape.proofs.Checks.{limits_fields_lem, limits_room}
use Rattle.tape.proofs.Fits.{limits_fit}
use Rattle.tape.proofs.limits.write_limits.Goals as goal

pub returns-in_err-check_limits : goal.returns-in_err-check_limits
unfolding limits_written
returns-in_err-check_limits c =
    let r = c.in_err-check_limits.field-0.0 in
    let e : c.from_residual.result ≡ Err r = search rules in
    let f = sym c.check_limits.ensures ∙ ap checked_means c.in_err-check_limits.was in
    rw e (wrote_none _ _ (Err r) (refusal_above r) (sym (limits_fields_lem _ _ (rw f (refusal_above r)) ∙ f)))

pub returns-then-out-lt-LIMITS_BYTES : goal.returns-then-out-lt-LIMITS_BYTES
unfolding limits_written
returns-then-out-lt-LIMITS_BYTES c =
    let passed = sym c.in_ok-check_limits.ensures in
    wrote_none _ _ (Err why.Ragged) (lit< tt) (sym (limits_room _ _ passed ∙ too_few _ c.args.out.now c.if-out-lt-LIMITS_BYTES.true))

pub store_limits-requires : goal.store_limits-requires
store_limits-requires c = (omega arith, limits_fit _ (sym c.in_ok-check_limits.ensures))

pub returns : goal.returns
unfolding limits_written
returns c =
    let passed = sym c.in_ok-check_limits.ensures in
    wrote_all _ _ (limits_room _ _ passed ∙ enough _ c.args.out.now c.if-out-lt-LIMITS_BYTES.false) c.store_limits.ensures
