-- `machine::torque::with_steps` meets its contract, by the tests of loaded steps.
use mathlib.Core.Path.{sym, ap, ◌∙◌}
use Prim.Native.Nat.{ℕ}
use borrow.Author.Rules.{rules}
use Rattle.display.specs.Display.{given}
use Rattle.display.specs.declared.Refusal.TheVariants as why
use Rattle.display.proofs.Answers.{gives, refuses_by}
use Rattle.machine.specs.Torque.{steps_refusal, machine_of}
use Rattle.machine.proofs.TorqueLaws.{loaded_none, loaded_uneven, loaded_rising, loaded_passes, loaded_serve, steps_none}
use Rattle.machine.proofs.torque.with_steps.Goals as goal

pub returns-then-is_empty : goal.returns-then-is_empty
returns-then-is_empty c =
    let a = c.args in
    let s = a.steps.now in
    let none = loaded_none s (search rules) in
    ap given c.built_in.ensures ∙ gives (machine_of a.l s) (steps_refusal s) (ap steps_refusal none ∙ steps_none) (ap (machine_of a.l) (sym none))

pub returns-then-steps-ne-STEPS : goal.returns-then-steps-ne-STEPS
returns-then-steps-ne-STEPS c =
    let a = c.args in
    refuses_by (machine_of a.l a.steps.now) why.Steps (loaded_uneven a.steps.now (search rules) c.if-steps-ne-STEPS.true)

pub returns-then-not-is_falling : goal.returns-then-not-is_falling
returns-then-not-is_falling c =
    let a = c.args in
    refuses_by (machine_of a.l a.steps.now) why.Steps (loaded_rising a.steps.now c.if-steps-ne-STEPS.false (sym c.if-not-is_falling.true ∙ c.is_falling.ensures))

pub returns : goal.returns
returns c =
    let a = c.args in
    let s = a.steps.now in
    gives (machine_of a.l s) (steps_refusal s) (loaded_passes s c.if-steps-ne-STEPS.false (sym c.if-not-is_falling.false ∙ c.is_falling.ensures))
    (ap (λ (n : ℕ). record { limits = a.l; torque = n }) (c.read_word.ensures.is ∙ loaded_serve s c.if-steps-ne-STEPS.false))
