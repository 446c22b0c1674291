-- `planner::fresh`: the planner that is made.
use Rattle.std.proofs.Common.{[], sym, ap, ◌∙◌}
use lib.Seq.{sets}
use Rattle.display.proofs.Answers.{given_is}
use Rattle.machine.specs.Torque.{machine_of, machine_refusal}
use Rattle.machine.specs.declared.Machine.{Machine}
use Rattle.line.specs.Ring.{fresh_ring}
use Rattle.planner.specs.View.{view_of, head_numbers}
use Rattle.planner.proofs.View.{view_fresh}
use Rattle.planner.proofs.Outcomes.{fresh_made}
use Rattle.planner.proofs.Blocks.{still_sized}
use Rattle.planner.proofs.fresh.Goals as goal

pub returns : goal.returns
returns c =
    let a = c.args in
    let memory = a.memory.now in
    let made = machine_of a.l a.steps.now in
    let n = machine_refusal a.l a.steps.now in
    let r = given_is made n n c.in_ok-m.ensures in
    let stored = c.store_fresh.ensures ∙ ap (λ (x : Machine). sets memory 0 (head_numbers (fresh_ring x [] []))) r.1 in
    fresh_made memory c.told-memory a.l a.steps.now c.store_fresh.new.memory
    (still_sized memory c.store_fresh.new.memory 0 (head_numbers (fresh_ring made [] [])) c.told-memory stored)
    (sym r.0)
    (ap view_of stored ∙ view_fresh memory made c.told-memory)
