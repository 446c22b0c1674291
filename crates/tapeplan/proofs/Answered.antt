-- What planning a whole tape answers, from its faults. From the laws of a tape's answers and faults.
use mathlib.Core.Path.{◌≡◌, refl, sym, ap, ◌∙◌}
use mathlib.Core.List.{List}
use Prim.Native.Nat.{ℕ, ◌+◌, ◌<◌, zero-le}
use native.Mathlib.Omega.{arith}
use borrow.Author.Tests.{eq-eqb, ne_eqb}
use lib.Dec.{eqb}
use lib.ListN.{length}
use Rattle.profile.proofs.Highest.{plan_highest}
use mathlib.Core.Bool.{cond}
use Rattle.display.specs.Display.{refusal_number, Fault, ◌at◌, given, refused, or_refused}
use Rattle.machine.specs.Answers.{loaded_answer}
use Rattle.machine.specs.Torque.{machine_of, steps_refusal}
use Rattle.machine.specs.declared.Limits.{Limits}
use Rattle.machine.specs.declared.Machine.{Machine}
use Rattle.tape.specs.Answers.{check_records, fault_from, head_refusal, tape_refusal}
use Rattle.display.proofs.Answers.{refusal_above, refuses_by, refused_is, given_is, at_zero, above_zero, then_first, then_second, then_zero}
use Rattle.display.specs.declared.Refusal.{Refusal}
use Rattle.display.specs.declared.Refusal.TheVariants as why
use Rattle.tape.specs.Tape.{records_in, tape_blocks, tape_limits}
use Rattle.tape.proofs.Faults.{fault_records, neither, tape_faultless, tape_passed}
use Rattle.tapeplan.specs.Planned.{tape_machine, tape_plan, tape_spans, start_answer, start_refusal, whole_fault, whole_refusal, plan_fault, PlannedTape, SurveyedTape}
use Rattle.std.specs.Prelude.{Ok, Err}
use Rattle.tapeplan.specs.declared.Measured.{Measured}

-- The whole tape's checks: what comes before the records decides, or the records do.
module _ (s loaded : List ℕ) where
  -- the machine, where head and steps pass
  pub start_refused : (r : Refusal) → 0 < head_refusal s → head_refusal s ≡ refusal_number r → refused (refusal_number r) ≡ start_answer s loaded
  unfolding start_answer
  start_refused r h e = refuses_by (tape_machine s loaded) r (then_first (steps_refusal loaded) h ∙ e)

  pub start_loaded : {l : Limits} → head_refusal s ≡ 0 → l ≡ tape_limits s → loaded_answer l loaded ≡ start_answer s loaded
  unfolding start_answer
  start_loaded e f = λ i. or_refused (sym (then_second {b = steps_refusal loaded} e refl) i) (machine_of (f i) loaded)

  -- and what its answer says
  pub start_none : (r : Refusal) → refused (refusal_number r) ≡ start_answer s loaded → start_refusal s loaded ≡ refusal_number r
  unfolding start_answer
  start_none r e = sym (refused_is (tape_machine s loaded) (start_refusal s loaded) (start_refusal s loaded) e).1

  pub start_given : {m : Machine} → given m ≡ start_answer s loaded → ((head_refusal s ≡ 0) × (steps_refusal loaded ≡ 0)) × (m ≡ tape_machine s loaded)
  unfolding start_answer
  start_given e = let r = given_is (tape_machine s loaded) (start_refusal s loaded) (start_refusal s loaded) e in (then_zero (head_refusal s) r.0, r.1)

  pub whole_start : 0 < start_refusal s loaded → whole_fault s loaded ≡ start_refusal s loaded at 0
  unfolding whole_fault
  whole_start h = above_zero (fault_from 1 (tape_blocks s)) (start_refusal s loaded at 0) h

  pub whole_records_lem : head_refusal s ≡ 0 → steps_refusal loaded ≡ 0 → whole_fault s loaded ≡ fault_from 1 (tape_blocks s)
  unfolding whole_fault
  whole_records_lem e f = at_zero (fault_from 1 (tape_blocks s)) (start_refusal s loaded at 0) (then_second e f)

  -- So a tape is refused by what comes before its records, or by the first of these at fault,
  pub start_fault : (r : Refusal) → refused (refusal_number r) ≡ start_answer s loaded → whole_fault s loaded ≡ refusal_number r at 0
  start_fault r e =
      let start = start_none r e in
      whole_start (rw start (refusal_above r)) ∙ ap (λ (n : ℕ). n at 0) start

  pub records_fault : {m : Machine} {f : Fault} → given m ≡ start_answer s loaded → refused f ≡ check_records s → whole_fault s loaded ≡ f
  unfolding check_records
  records_fault e g =
      let start = (start_given e).0 in
      let records = fault_from 1 (tape_blocks s) in
      whole_records_lem start.0 start.1 ∙ sym (refused_is (records_in s) records records.number g).1

  -- or it passes.
  pub records_passed : {n : ℕ} → given n ≡ check_records s → ((fault_from 1 (tape_blocks s)).number ≡ 0) × (n ≡ records_in s)
  unfolding check_records
  records_passed g = let records = fault_from 1 (tape_blocks s) in given_is (records_in s) records records.number g

  pub whole_given : {m : Machine} {n : ℕ} → given m ≡ start_answer s loaded → given n ≡ check_records s → whole_refusal s loaded ≡ 0
  whole_given e g =
      let start = (start_given e).0 in
      ap (λ (f : Fault). f.number) (whole_records_lem start.0 start.1) ∙ (records_passed g).0

  -- They pass exactly where the tape's own checks pass, and its loaded steps.
  pub whole_passed : whole_refusal s loaded ≡ 0 → (tape_refusal s ≡ 0) × (steps_refusal loaded ≡ 0)
  unfolding whole_fault
  whole_passed e =
      let both = neither (start_refusal s loaded) 0 (fault_from 1 (tape_blocks s)) e in
      let start = then_zero (head_refusal s) both.0 in
      (ap (λ (f : Fault). f.number) (fault_records s start.0) ∙ both.1, start.1)

  pub whole_faultless : tape_refusal s ≡ 0 → steps_refusal loaded ≡ 0 → whole_fault s loaded ≡ 0 at 0
  whole_faultless e f =
      let own = tape_passed s e in
      whole_records_lem own.0 f ∙ sym (fault_records s own.0) ∙ tape_faultless s own.0 own.1

  pub whole_passes : {m : Machine} {n : ℕ} → given m ≡ start_answer s loaded → given n ≡ check_records s → whole_fault s loaded ≡ 0 at 0
  whole_passes e g = let own = whole_passed (whole_given e g) in whole_faultless own.0 own.1

module _ (s loaded before : List ℕ) where
  -- refused with a number and a place
  refused_by : (r : Refusal) (p : ℕ) → plan_fault s loaded (length before) ≡ refusal_number r at p → PlannedTape s loaded before before (Err record { why = r; place = p })
  refused_by r p e =
      let above : 0 < (plan_fault s loaded (length before)).number = rw e (refusal_above r) in
      record { fault = sym e; list = sym (above_zero (tape_plan s loaded) before above); highest = λ z. absurd (omega arith) }

  -- by the whole tape's checks
  pub tape_refused : (r : Refusal) (p : ℕ) → whole_fault s loaded ≡ refusal_number r at p → PlannedTape s loaded before before (Err record { why = r; place = p })
  unfolding plan_fault
  tape_refused r p e =
      let above : 0 < (whole_fault s loaded).number = rw e (refusal_above r) in
      refused_by r p (above_zero _ (whole_fault s loaded) above ∙ e)

  -- and with a work sheet, which then holds anything
  pub surveyed_refused : (r : Refusal) (p : ℕ) {work work' : List Measured} → whole_fault s loaded ≡ refusal_number r at p → SurveyedTape s loaded work work' before before (Err record { why = r; place = p })
  surveyed_refused r p e = record { planned = tape_refused r p e; measured = λ z. absurd (omega (arith, refusal_above r, sym z ∙ ap (λ (f : Fault). f.number) e)) }

  -- what is left to check of a tape that passes
  list_fault : (whole_fault s loaded).number ≡ 0 → plan_fault s loaded (length before) ≡ cond (eqb (length before) (records_in s + 1)) 0 11 at 0
  unfolding plan_fault
  list_fault e = at_zero _ (whole_fault s loaded) e

  -- by the list's length
  pub list_refused : (whole_fault s loaded).number ≡ 0 → (length before ≡ records_in s + 1 → ⊥) → PlannedTape s loaded before before (Err record { why = why.List; place = 0 })
  list_refused e h = refused_by why.List 0 (list_fault e ∙ ap (λ t. cond t 0 11 at 0) (ne_eqb (length before) (records_in s + 1) h))

  -- accepted, with the plan in the list
  pub tape_planned : {after : List ℕ} → (whole_fault s loaded).number ≡ 0 → length before ≡ records_in s + 1 → after ≡ tape_plan s loaded → PlannedTape s loaded before after (Ok tt)
  tape_planned e h f =
      let none : plan_fault s loaded (length before) ≡ 0 at 0 = list_fault e ∙ ap (λ t. cond t 0 11 at 0) (eq-eqb (length before) (records_in s + 1) h) in
      record {
        fault = sym none;
        list = f ∙ sym (at_zero (tape_plan s loaded) before (ap (λ (g : Fault). g.number) none));
        highest = λ z. rw f (plan_highest 0 (tape_spans s loaded) zero-le);
      }
