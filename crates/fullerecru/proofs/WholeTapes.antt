-- From what the whole-tape planner and the replay promise to the promises of their functions for C.
use mathlib.Core.List.{List, ◌∷◌, []}
use mathlib.Core.Path.{◌≡◌, refl, sym, ap, subst, ◌∙◌}
use Prim.Native.Nat.{ℕ, ◌<◌}
use native.Mathlib.Omega.{arith}
use Rattle.display.specs.Display.{Fault}
use Rattle.display.proofs.Answers.{refusal_above, at_zero, above_zero}
use Rattle.machine.specs.Torque.{machine_of}
use Rattle.tape.specs.Tape.{limits_at}
use Rattle.tapeplan.specs.Planned.{PlannedTape, planned_means}
use Rattle.std.specs.Prelude.{⊤, Result, Ok, Err}
use Rattle.display.specs.declared.Refusal.{Refusal}
use Rattle.display.specs.declared.RefusedAt.{RefusedAt}
use Rattle.replay.specs.Trace.{trace_calls}
use Rattle.replay.specs.Replays.{Demanded, Replays, replayed_means}
use Rattle.fullerecru.specs.Plans.{PlanLent, told_after, ReplayLent}

-- A whole tape, by the number and the place of its answer.
pub planned : {tape loaded list list' place' : List ℕ} (r : Result ⊤ RefusedAt) {n : ℕ} → PlannedTape tape loaded list list' r
    → n ≡ (planned_means r).number → place' ≡ (planned_means r).place ∷ [] → PlanLent tape loaded n list list' place'
planned r p e f =
    let number = ap (λ (x : Fault). x.number) p.fault in
    record {
      number_is = e ∙ number;
      place_is = f ∙ ap (λ (x : Fault). x.place ∷ []) p.fault;
      list_is = p.list;
      highest = λ z. p.highest (sym number ∙ sym e ∙ z);
    }

-- What a lent list of one number has after a trace: the number told, or what it had.
abbrev pub told_by : Result ℕ Refusal → List ℕ → List ℕ
told_by (Ok told) had = told ∷ []
told_by (Err why) had = had

-- A trace that was run or refused, by the number of its answer.
pub replayed : {trace loaded answers answers' plan plan' : List ℕ} (r : Result ℕ Refusal) {n : ℕ} (told : List ℕ) {told' : List ℕ} → Replays trace loaded answers plan r answers' plan'
    → n ≡ replayed_means r → told' ≡ told_by r told → ReplayLent trace loaded n answers answers' plan plan' told told'
replayed {trace} {loaded} {answers'} {plan} {plan'} (Ok held) told p e f =
    let d = p.run refl in
    record {
      number_is = e ∙ p.number;
      told_is = f ∙ ap (λ (k : ℕ). k ∷ []) d.demand.number ∙ sym (at_zero (told_after trace loaded ∷ []) told e);
      run = λ z. subst (λ (k : ℕ). Demanded (machine_of (limits_at trace) loaded) (trace_calls trace) k answers' plan plan') d.demand.number d;
      refused = λ h. absurd (omega arith);
    }
replayed {trace} {loaded} (Err why) {n} told p e f =
    let above = refusal_above why in
    let refusing : 0 < n = omega arith in
    record {
      number_is = e ∙ p.number;
      told_is = f ∙ sym (above_zero (told_after trace loaded ∷ []) told refusing);
      run = λ z. absurd (omega arith);
      refused = λ h. p.refused above;
    }
