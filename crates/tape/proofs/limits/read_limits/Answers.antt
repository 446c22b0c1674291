-- `tape::limits::read_limits` meets its contract, from what `decode_limits` and `check_limits` ensure.
use mathlib.Core.Path.{◌≡◌, sym, ap, ◌∙◌}
use Rattle.std.proofs.Common.{rules, Err}
use Rattle.machine.specs.Checks.{limits_refusal}
use Rattle.display.specs.declared.Refusal.TheVariants as why
use Rattle.tape.specs.Tape.{zero_bits}
use Rattle.display.specs.Display.{checked_means}
use Rattle.tape.specs.Answers.{read_limits, limits_read_refusal}
use Rattle.display.proofs.Answers.{gives, refuses_by}
use Rattle.tape.proofs.Checks.{limits_short, limits_long, limits_bits, limits_zeros}
use Rattle.tape.proofs.Words.{limits_field}
use Rattle.tape.proofs.limits.read_limits.Goals as goal
use Rattle.tape.proofs.limits.read_limits.Goals.{After-check_limits, After-read_field}

-- the zero bits, once they are read
bits : (c : After-read_field) → c.read_field.result ≡ zero_bits c.args.s.now
unfolding zero_bits
bits c =
    c.read_field.ensures.is ∙ limits_field (record { each = λ i. (c.type_inv.s i).fits }) c.if-s-lt-LIMITS_BYTES.false 9

-- the number, once the limits are checked
number : (c : After-check_limits) → c.read_field.result ≡ zero_bits c.args.s.now → limits_read_refusal c.args.s.now ≡ checked_means c.check_limits.result
number c bits_read =
    limits_long _ c.if-s-lt-LIMITS_BYTES.false ∙ limits_zeros _ (sym bits_read ∙ c.if-read_field-ne0.false)
    ∙ ap limits_refusal (sym c.decode_limits-l.ensures) ∙ sym c.check_limits.ensures

pub returns-then-s-lt-LIMITS_BYTES : goal.returns-then-s-lt-LIMITS_BYTES
unfolding read_limits
returns-then-s-lt-LIMITS_BYTES c = refuses_by _ why.Ragged (limits_short _ c.if-s-lt-LIMITS_BYTES.true)

pub returns-then-read_field-ne0 : goal.returns-then-read_field-ne0
unfolding read_limits
returns-then-read_field-ne0 c =
    refuses_by _ why.Limits
    (limits_long _ c.if-s-lt-LIMITS_BYTES.false ∙ limits_bits _ (λ z. c.if-read_field-ne0.true (bits (goal.at.returns-then-read_field-ne0 c).After-read_field ∙ z)))

pub returns-in_err-check_limits : goal.returns-in_err-check_limits
unfolding read_limits
returns-in_err-check_limits c =
    let e : c.from_residual.result ≡ Err c.in_err-check_limits.field-0.0 = search rules in
    rw e (refuses_by _ c.in_err-check_limits.field-0.0 (number (goal.at.returns-in_err-check_limits c).After-check_limits (bits (goal.at.returns-in_err-check_limits c).After-read_field) ∙ ap checked_means c.in_err-check_limits.was))

pub returns : goal.returns
unfolding read_limits
returns c = gives _ _ (number (goal.at.returns c).After-check_limits (bits (goal.at.returns c).After-read_field) ∙ ap checked_means c.in_ok-check_limits.was) c.decode_limits-l.ensures
