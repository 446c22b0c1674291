-- `replay::replay` meets its contract: making the planner decides, then the lists' lengths, else the calls are run. From the planner's promises.
use mathlib.Core.List.{List}
use mathlib.Core.Path.{◌≡◌, sym, ap, ◌∙◌}
use Prim.Native.Nat.{ℕ, ◌-◌, ◌≤◌}
use native.Mathlib.Omega.{arith}
use lib.ListN.{length, take, drop, length-drop, length-take}
use lib.Seq.{take_all}
use Rattle.std.proofs.lemmas.Result.{err_from_is_err_and}
use Rattle.display.specs.Display.{checked_means}
use Rattle.tape.specs.Tape.{limits_bytes}
use Rattle.replay.specs.Replays.{begin_refusal}
use Rattle.replay.proofs.Heads.{begun_long, begin_refused, answers_refused, plan_refused, trace_run}
use Rattle.replay.proofs.Runs.{demanded}
use Rattle.replay.proofs.replay.Goals as goal
use Rattle.replay.proofs.replay.Goals.{In_ok-begin}

-- the part lent for the calls is all behind the limits
behind : (trace : List ℕ) → take (length trace - limits_bytes) (drop limits_bytes trace) ≡ drop limits_bytes trace
behind trace = take_all (length trace - limits_bytes) (drop limits_bytes trace) (omega (arith, length-drop limits_bytes trace))

-- what is known where a planner was made
module _ (c : In_ok-begin) where
  passed : begin_refusal c.args.trace.now c.args.steps.now ≡ 0
  passed = sym c.begin.ensures.number ∙ ap checked_means c.in_ok-begin.was

  long : limits_bytes ≤ length c.args.trace.now
  long = begun_long c.args.trace.now c.args.steps.now passed

pub returns-in_err-begin : goal.returns-in_err-begin
returns-in_err-begin c =
    let a = c.args in
    let p = err_from_is_err_and c.from_residual.result c.from_residual.ensures.1 in
    rw (p.1, p.2) (begin_refused a.trace.now a.steps.now a.answers.now a.plan.now c.in_err-begin.field-0.0 (ap checked_means (sym c.in_err-begin.was) ∙ c.begin.ensures.number))

pub overflow_sub-trace : goal.overflow_sub-trace
overflow_sub-trace c = omega (arith, long c)

pub returns-then-answers-trace : goal.returns-then-answers-trace
returns-then-answers-trace c =
    let a = c.args in
    answers_refused c.args.trace.now a.steps.now a.answers.now a.plan.now (passed (goal.at.returns-then-answers-trace c).In_ok-begin) c.if-answers-trace.true

pub returns-then-plan-ne-PLAN : goal.returns-then-plan-ne-PLAN
returns-then-plan-ne-PLAN c =
    let a = c.args in
    plan_refused c.args.trace.now a.steps.now a.answers.now a.plan.now (passed (goal.at.returns-then-plan-ne-PLAN c).In_ok-begin) c.if-answers-trace.false c.if-plan-ne-PLAN.true

pub slice_bounds-run-count : goal.slice_bounds-run-count
slice_bounds-run-count c = omega (arith, long (goal.at.slice_bounds-run-count c).In_ok-begin)

pub slice_bounds-run-start : goal.slice_bounds-run-start
slice_bounds-run-start c = omega (arith, long (goal.at.slice_bounds-run-start c).In_ok-begin)

pub run-requires : goal.run-requires
run-requires c = simp (length-take, length-drop) (omega (arith, long (goal.at.run-requires c).In_ok-begin))

pub returns : goal.returns
returns c =
    let a = c.args in
    let fresh = c.begin.ensures.fresh (ap checked_means c.in_ok-begin.was) in
    trace_run c.args.trace.now a.steps.now a.answers.now a.plan.now c.tell.result (passed (goal.at.returns c).In_ok-begin) c.if-answers-trace.false c.if-plan-ne-PLAN.false
    (demanded fresh (rw (behind c.args.trace.now) at c.run.ensures) c.tell.ensures)
