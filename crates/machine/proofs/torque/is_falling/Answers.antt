-- `machine::torque::is_falling`: from the laws of steps.
use mathlib.Core.Path.{◌≡◌, sym, ap, ◌∙◌}
use Prim.Native.Nat.{ℕ, ◌+◌}
use borrow.Author.Rules.{rules}
use lib.ListN.{get_or, drop}
use Rattle.machine.specs.Checks.{within}
use Rattle.machine.specs.Ranges.{least_percent}
use Rattle.machine.specs.Torque.{falling}
use Rattle.machine.proofs.TorqueLaws.{falling_out, falling_next, falling_end}
use Rattle.machine.proofs.torque.is_falling.Goals as goal
use Rattle.machine.proofs.torque.is_falling.Goals.{After-is_within}

-- the test of the next step
module _ (c : After-is_within) where
  test : within least_percent c.loop-step.most (get_or c.args.steps.now c.loop-step.step-index 0) ≡ c.is_within.result
  test = sym (c.is_within.ensures ∙ ap (within least_percent c.loop-step.most) c.from-percent.ensures)

pub returns-then-not-is_within : goal.returns-then-not-is_within
returns-then-not-is_within c =
    let s = c.args.steps.now in
    let k = c.loop-step.step-index in
    sym (c.loop-step.invariant ∙ falling_out c.loop-step.most s k (search rules) (test (goal.at.returns-then-not-is_within c).After-is_within ∙ c.if-not-is_within.true))

pub loop-step-preserved : goal.loop-step-preserved
loop-step-preserved c =
    let s = c.args.steps.now in
    let k = c.loop-step.step-index in
    c.loop-step.invariant ∙ falling_next c.loop-step.most s k (search rules) (test (goal.at.loop-step-preserved c).After-is_within ∙ c.if-not-is_within.false)
    ∙ ap (λ (p : ℕ). falling p (drop (k + 1) s)) (sym c.from-percent.ensures)

pub returns : goal.returns
returns c =
    let s = c.args.steps.now in
    sym (c.loop-step.invariant ∙ falling_end c.loop-step.most s c.loop-step.step-index (search rules))
