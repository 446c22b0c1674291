-- `tape::whole::read_head` meets its contract: the tests are the definition's, and the rest is what `read_limits` ensures.
use mathlib.Core.Bool.{true≢false}
use mathlib.Core.Path.{sym, ◌∙◌}
use Rattle.display.specs.declared.Refusal.TheVariants as why
use Rattle.tape.specs.Tape.{limits_at}
use Rattle.display.specs.Display.{by_number, given, refused}
use Rattle.tape.specs.Answers.{read_limits, read_head}
use Rattle.display.proofs.Answers.{refuses_by}
use Rattle.tape.proofs.Checks.{head_many, head_short, head_ragged, head_limits, limits_long}
use Rattle.tape.proofs.whole.read_head.Goals as goal

pub returns-then-s-gt-MOST_BYTES : goal.returns-then-s-gt-MOST_BYTES
unfolding read_head
returns-then-s-gt-MOST_BYTES c = refuses_by _ why.Many (head_many _ c.if-s-gt-MOST_BYTES.true)

pub returns-then-s-lt-LIMITS_BYTES : goal.returns-then-s-lt-LIMITS_BYTES
unfolding read_head
returns-then-s-lt-LIMITS_BYTES c = refuses_by _ why.Ragged (head_short _ c.if-s-gt-MOST_BYTES.false c.if-s-lt-LIMITS_BYTES.true)

pub returns-then-not-is_multiple_of : goal.returns-then-not-is_multiple_of
unfolding read_head
returns-then-not-is_multiple_of c = refuses_by _ why.Ragged (head_ragged _ c.if-s-gt-MOST_BYTES.false c.if-s-lt-LIMITS_BYTES.false (λ z. true≢false (sym (c.is_multiple_of.ensures.1 z) ∙ c.if-not-is_multiple_of.true)))

pub returns : goal.returns
unfolding read_head read_limits
returns c =
    let s = c.args.s.now in
    let n = limits_long s c.if-s-lt-LIMITS_BYTES.false ∙ sym (head_limits s c.if-s-gt-MOST_BYTES.false c.if-s-lt-LIMITS_BYTES.false (c.is_multiple_of.ensures.0 c.if-not-is_multiple_of.false)) in
    c.read_limits.ensures ∙ (λ i. by_number (n i) (given (limits_at s)) (refused (n i)))
