-- `tapeplan::whole::plan_surveyed` meets its contract: head and steps decide, or the survey's lists are the tape's line, which the passes plan.
use Rattle.std.proofs.Common.{◌≡◌, ℕ, ◌+◌, ◌≤◌, length, take, rules, arith, sym, ap, subst, ◌∙◌, zero-le, Err}
use lib.Seq.{length-take-le}
use Rattle.profile.specs.Passes.{plan_of}
use Rattle.profile.proofs.Plan.{plan_forward}
use Rattle.machine.specs.Checks.{limits_refusal}
use Rattle.machine.specs.Line.{spans_of}
use Rattle.machine.specs.Torque.{steps_refusal}
use Rattle.machine.specs.declared.Machine.{Machine}
use Rattle.machine.proofs.Bounds.{limits_below}
use Rattle.tape.specs.Tape.{records_in, tape_blocks}
use Rattle.tape.specs.Answers.{fault_from, head_refusal, most_blocks}
use Rattle.tape.proofs.Checks.{head_passed, head_records, limits_faultless}
use Rattle.display.specs.declared.Refusal.TheVariants as why
use Rattle.tapeplan.specs.Planned.{tape_machine, whole_refusal}
use Rattle.tapeplan.specs.Sheet.{Measures}
use Rattle.tapeplan.proofs.Answered.{list_refused, records_fault, records_passed, start_fault, start_given, surveyed_refused, tape_planned, whole_given}
use Rattle.tapeplan.proofs.whole.plan_surveyed.Goals as goal
use Rattle.tapeplan.proofs.whole.plan_surveyed.Goals.{In_ok-m, In_ok-n}

-- 10, 9, 1 and 14
pub returns-in_err-m : goal.returns-in_err-m
returns-in_err-m c =
    let a = c.args in
    let r = c.in_err-m.field-0.0 in
    let e : c.from_residual.result ≡ Err record { why = r; place = 0 } = search rules in
    rw e (surveyed_refused a.s.now a.steps.now a.list.now r 0 (start_fault a.s.now a.steps.now r c.in_err-m.ensures))

pub survey-requires : goal.survey-requires
survey-requires c =
    let s = c.args.s.now in
    let start = start_given s c.args.steps.now c.in_ok-m.ensures in
    let head = head_passed s start.0.0 in (
      limits_below c.in_ok-m.m.limits (ap (λ (m : Machine). limits_refusal m.limits) start.1 ∙ (limits_faultless s head.limits).1),
      head_records s head,
    )

-- the first record at fault
pub returns-in_err-n : goal.returns-in_err-n
returns-in_err-n c =
    let a = c.args in
    let r = c.in_err-n.field-0.0 in
    let e : c.from_residual-in_err-n.result ≡ Err r = search rules in
    rw e (surveyed_refused a.s.now a.steps.now a.list.now r.why r.place (records_fault a.s.now a.steps.now c.in_ok-m.ensures (c.in_err-n.ensures).answer))

-- where the records pass, there is no fault, there are n of them, and the machine is the tape's
module _ (c : In_ok-n) where
  start : ((head_refusal c.args.s.now ≡ 0) × (steps_refusal c.args.steps.now ≡ 0)) × (c.in_ok-m.m ≡ tape_machine c.args.s.now c.args.steps.now)
  start = start_given c.args.s.now c.args.steps.now c.in_ok-m.ensures

  passed : ((fault_from 1 (tape_blocks c.args.s.now)).number ≡ 0) × (c.in_ok-n.n ≡ records_in c.args.s.now)
  passed = records_passed c.args.s.now c.args.steps.now (c.in_ok-n.ensures).answer

  faultless : whole_refusal c.args.s.now c.args.steps.now ≡ 0
  faultless = whole_given c.args.s.now c.args.steps.now c.in_ok-m.ensures (c.in_ok-n.ensures).answer

  measured : Measures (tape_machine c.args.s.now c.args.steps.now) c.args.s.now c.args.work.now c.survey.new.sheet (records_in c.args.s.now)
  measured = subst (λ (m : Machine). Measures m c.args.s.now c.args.work.now c.survey.new.sheet (records_in c.args.s.now)) start.1 (c.survey.ensures.measured passed.0)

  few : c.in_ok-n.n ≤ most_blocks
  few = omega (arith, passed.1, head_records c.args.s.now (head_passed c.args.s.now start.0.0))

  line_is : take c.in_ok-n.n c.survey.new.line ≡ spans_of (tape_machine c.args.s.now c.args.steps.now) (tape_blocks c.args.s.now)
  line_is =
      ap (λ (m : ℕ). take m c.survey.new.line) passed.1
      ∙ c.survey.ensures.spans passed.0
      ∙ ap (λ (m : Machine). spans_of m (tape_blocks c.args.s.now)) start.1

  line_long : length (take c.in_ok-n.n c.survey.new.line) ≡ c.in_ok-n.n
  line_long = length-take-le c.in_ok-n.n c.survey.new.line (omega (arith, few, c.survey.auto.line))

pub overflow_add-n : goal.overflow_add-n
overflow_add-n c = record { fits = omega (arith, few c) }

pub returns-then-list-n : goal.returns-then-list-n
returns-then-list-n c =
    let a = c.args in
    let known = (goal.at.returns-then-list-n c).In_ok-n in
    let e : c.into.result ≡ record { why = why.List; place = 0 } = search rules in
    rw e (
    record {
      planned = list_refused a.s.now a.steps.now a.list.now (faultless known) (λ e. c.if-list-n.true (e ∙ ap (λ (m : ℕ). m + 1) (sym (passed known).1)));
      measured = λ z. measured known;
    }
    )

pub slice_bounds-line-end : goal.slice_bounds-line-end
slice_bounds-line-end c = omega (arith, few (goal.at.slice_bounds-line-end c).In_ok-n, c.survey.auto.line)

pub slice_bounds-plan_from-end : goal.slice_bounds-plan_from-end
slice_bounds-plan_from-end c = sym (line_long (goal.at.slice_bounds-plan_from-end c).In_ok-n)

pub plan_from-requires : goal.plan_from-requires
plan_from-requires c =
    omega (arith, line_long (goal.at.plan_from-requires c).In_ok-n, c.if-list-n.false)

pub returns : goal.returns
returns c =
    let a = c.args in
    let known = (goal.at.returns c).In_ok-n in
    record {
      planned =
          tape_planned a.s.now a.steps.now a.list.now (faultless known) (omega (arith, c.if-list-n.false, (passed known).1))
          (c.plan_from.ensures ∙ sym (plan_forward 0 (take c.in_ok-n.n c.survey.new.line) zero-le) ∙ ap (plan_of 0) (line_is known));
      measured = λ z. measured known;
    }
