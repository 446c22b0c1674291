-- Demand 3 of every accepted tape, from the promise of the whole-tape planner alone.
use mathlib.Core.List.{List}
use mathlib.Core.Path.{◌≡◌, refl, ap, ◌∙◌}
use mathlib.Core.Bool.{Bool, cond}
use Prim.Native.Nat.{ℕ, ◌+◌}
use native.Mathlib.Omega.{arith}
use borrow.Author.Tests.{eq-eqb}
use lib.ListN.{length}
use Rattle.display.specs.Display.{Fault, ◌at◌}
use Rattle.display.proofs.Answers.{refusal_above, at_zero}
use Rattle.machine.specs.Torque.{steps_refusal}
use Rattle.tape.specs.Answers.{tape_refusal}
use Rattle.tape.specs.Tape.{records_in}
use Rattle.tapeplan.specs.Planned.{tape_plan, whole_fault, plan_fault, PlannedTape, TapeDemand3, planned_means}
use Rattle.tapeplan.proofs.Answered.{whole_faultless}
use Rattle.std.specs.Prelude.{⊤, Result, Ok, Err}
use Rattle.display.specs.declared.RefusedAt.{RefusedAt}

-- An accepted tape with accepted steps and a list of the right length has no fault.
no_fault : (s loaded : List ℕ) (lent : ℕ) → tape_refusal s ≡ 0 → steps_refusal loaded ≡ 0 → lent ≡ records_in s + 1 → plan_fault s loaded lent ≡ 0 at 0
unfolding plan_fault
no_fault s loaded lent passed steps fits =
    at_zero _ (whole_fault s loaded) (ap (λ (f : Fault). f.number) (whole_faultless s loaded passed steps))
    ∙ ap (λ (t : Bool). cond t 0 11 at 0) (eq-eqb lent (records_in s + 1) fits)

-- DEMAND 3 of a tape. For every accepted tape, all accepted steps and every list one longer than the tape's blocks.
pub tape_demand3 : {s loaded before after : List ℕ} {r : Result ⊤ RefusedAt} → PlannedTape s loaded before after r → tape_refusal s ≡ 0 → steps_refusal loaded ≡ 0
    → length before ≡ records_in s + 1 → TapeDemand3 s loaded after r
tape_demand3 {s} {loaded} {before} {r} p passed steps fits =
    let none = no_fault s loaded (length before) passed steps fits in
    let zero = ap (λ (f : Fault). f.number) none in
    record {
      answered = planned r (p.fault ∙ none);
      plan = p.list ∙ at_zero (tape_plan s loaded) before zero;
      highest = p.highest zero;
    }
  where
    planned : (r : Result ⊤ RefusedAt) → planned_means r ≡ 0 at 0 → r ≡ Ok tt
    planned (Ok _) e = refl
    planned (Err r) e = absurd (omega (arith, refusal_above r.why, ap (λ (f : Fault). f.number) e))
