-- `machine::answer::numbers_answer`: limits, steps and a block that pass have numbers.
use mathlib.Core.Path.{sym, subst}
use Rattle.display.proofs.Answers.{given_is, then_zero}
use Rattle.machine.specs.Checks.{limits_refusal}
use Rattle.machine.specs.Numbers.{LimitsBelow}
use Rattle.machine.specs.Torque.{machine_of, machine_refusal}
use Rattle.machine.specs.declared.Machine.{Machine}
use Rattle.machine.proofs.Bounds.{limits_below}
use Rattle.machine.proofs.answer.numbers_answer.Goals as goal

pub numbers-requires : goal.numbers-requires
numbers-requires c =
    let l = c.args.l in
    let n = machine_refusal l c.args.steps.now in
    let made = given_is (machine_of l c.args.steps.now) n n c.in_ok-m.ensures in
    let below = limits_below l (then_zero (limits_refusal l) made.0).0 in
    (subst (λ (x : Machine). LimitsBelow x.limits) (sym made.1) below, sym c.in_ok-check_block.ensures)
