-- `machine::check::check_limits` meets its contract: the tests together are the definition's.
use mathlib.Core.Path.{◌≡◌, sym, ap, ◌∙◌}
use mathlib.Core.Bool.{Bool, ◌&&◌, cond}
use Rattle.machine.specs.Checks.{limits_refusal, limits_within}
use Rattle.machine.proofs.check.check_limits.Goals as goal
use Rattle.machine.proofs.check.check_limits.Goals.{After-is_within-3}

-- the flag that the code tests
flag_is : (c : After-is_within-3) →
    (c.are_within.result && c.are_within-2.result)
    && ((c.is_within.result && c.is_within-2.result) && c.is_within-3.result)
    ≡ limits_within c.args.l
unfolding limits_within
flag_is c =
    λ i.
    (c.are_within.ensures i && c.are_within-2.ensures i)
    && ((c.is_within.ensures i && c.is_within-2.ensures i) && c.is_within-3.ensures i)

pub returns-then-axes-rest : goal.returns-then-axes-rest
unfolding limits_refusal
returns-then-axes-rest c = sym (ap (λ (t : Bool). cond t 0 1) (sym (flag_is c.before) ∙ c.if-axes-rest.true))

pub returns-else-axes-rest : goal.returns-else-axes-rest
unfolding limits_refusal
returns-else-axes-rest c = sym (ap (λ (t : Bool). cond t 0 1) (sym (flag_is c.before) ∙ c.if-axes-rest.false))
