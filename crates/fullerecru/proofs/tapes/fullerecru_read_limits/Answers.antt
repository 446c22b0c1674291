-- `fullerecru::tapes::fullerecru_read_limits`: the answer of `read_limits` by its number.
use mathlib.Core.List.{[]}
use mathlib.Core.Path.{sym, ap, ◌∙◌}
use borrow.Author.Rules.{rules}
use Rattle.display.specs.Display.{outcome_of, refused}
use Rattle.machine.specs.Lists.{limit_numbers}
use Rattle.machine.proofs.Runs.{sets_all}
use Rattle.fullerecru.proofs.FromBytes.{limits_given, limits_refused}
use Rattle.fullerecru.proofs.tapes.fullerecru_read_limits.Goals as goal

pub returns-in-Err : goal.returns-in-Err
returns-in-Err c =
    let a = c.args in
    limits_refused a.bytes.now a.limits.now
    (ap refused c.refusal_number.ensures ∙ ap outcome_of (sym c.in-Err.is) ∙ c.read_limits.ensures)

pub returns-in-Ok : goal.returns-in-Ok
returns-in-Ok c =
    let a = c.args in
    limits_given a.bytes.now a.limits.now (ap outcome_of (sym c.in-Ok.is) ∙ c.read_limits.ensures)
    (c.store_limits.ensures ∙ sets_all (limit_numbers c.in-Ok.l []) a.limits.now (search rules))
