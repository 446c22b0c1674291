-- What a tape is answered, and what a report holds then, by the answer. From the laws of the numbers on the display.
use Rattle.std.proofs.Common.{◌≡◌, ℕ, ◌+◌, ◌<◌, ◌≤◌, Bool, cond, ltb, List, length, refl, sym, ap, ◌∙◌, arith, le-ltb, lt-ltb}
use Rattle.display.specs.Display.{Fault, given, refused, refusal_number, ◌at◌}
use Rattle.display.specs.declared.Refusal.{Refusal}
use Rattle.display.specs.declared.Refusal.TheVariants as why
use Rattle.display.proofs.Answers.{above_zero, at_zero, gives, refuses}
use Rattle.tapeplan.specs.Planned.{whole_fault, whole_refusal}
use Rattle.tape.proofs.Faults.{neither}
use Rattle.tapeplan.proofs.Answered.{whole_faultless, whole_passed}
use Rattle.tapeplan.proofs.Sized.{fault_above}
use Rattle.report.specs.Figures.{figure_count, figure_numbers, figured_by, figures_of}
use Rattle.report.specs.Report.{Reported, add_fault, all_of, most_tapes, report_numbers, tapes_in, with_figures}
use Rattle.report.specs.declared.Figures.{Figures}

-- The figures of a tape are as many numbers as are lent for them.
pub figures_sized : (f : Figures) → length (figure_numbers f) ≡ figure_count
figures_sized f = refl

-- figures are refused by a fault, or given where there is none
pub figured_refused : (fault : Fault) (f : Figures) (r : Refusal) (place : ℕ) → refusal_number r at place ≡ fault → refused (refusal_number r at place) ≡ figured_by fault f
figured_refused fault f r place e = refuses f fault (fault_above r place e) e

pub figured_given : (fault : Fault) (f : Figures) {g : Figures} → fault.number ≡ 0 → g ≡ f → given g ≡ figured_by fault f
figured_given fault f e same = gives f fault e same

-- One more tape of a report: refused after 100, else by its own checks.
module _ (report s loaded : List ℕ) where
  abbrev fault : Fault
  fault = add_fault (tapes_in report) s loaded

  many : most_tapes ≤ tapes_in report → fault ≡ 10 at 0
  unfolding add_fault
  many h =
      let number : ◌≡◌ {A = ℕ} (cond (ltb (tapes_in report) most_tapes) 0 10) 10 = ap (λ (t : Bool). cond t 0 10) (le-ltb (tapes_in report) most_tapes h) in
      let above : 0 < cond (ltb (tapes_in report) most_tapes) 0 10 = omega (arith, number) in
      above_zero (whole_fault s loaded) (cond (ltb (tapes_in report) most_tapes) 0 10 at 0) above ∙ ap (λ (n : ℕ). n at 0) number

  own : tapes_in report < most_tapes → fault ≡ whole_fault s loaded
  unfolding add_fault
  own h = at_zero (whole_fault s loaded) (cond (ltb (tapes_in report) most_tapes) 0 10 at 0) (ap (λ (t : Bool). cond t 0 10) (lt-ltb (tapes_in report) most_tapes h))

  by_fault_lem : (r : Refusal) (place : ℕ) → refusal_number r at place ≡ fault → Reported report s loaded (refused (refusal_number r at place)) report
  by_fault_lem r place e = record { answered = figured_refused fault (figures_of s loaded) r place e; left = sym (above_zero _ report (fault_above r place e)) }

  pub reported_many : most_tapes ≤ tapes_in report → Reported report s loaded (refused (10 at 0)) report
  reported_many h = by_fault_lem why.Many 0 (sym (many h))

  pub reported_refused : (r : Refusal) (place : ℕ) → tapes_in report < most_tapes → refusal_number r at place ≡ whole_fault s loaded
      → Reported report s loaded (refused (refusal_number r at place)) report
  reported_refused r place h e = by_fault_lem r place (e ∙ sym (own h))

  pub reported_added : {report' : List ℕ} {f : Figures} → tapes_in report < most_tapes → whole_refusal s loaded ≡ 0 → f ≡ figures_of s loaded
      → report' ≡ report_numbers (tapes_in report + 1) (with_figures (all_of report) f) → Reported report s loaded (given f) report'
  reported_added h z same stored =
      let none : fault.number ≡ 0 = ap (λ (f : Fault). f.number) (own h) ∙ z in
      record {
        answered = figured_given fault (figures_of s loaded) none same;
        left = stored ∙ ap (λ (f : Figures). report_numbers (tapes_in report + 1) (with_figures (all_of report) f)) same ∙ sym (at_zero _ report none);
      }

-- A tape that is accepted has no place.
pub accepted_place : (tapes : ℕ) (s loaded : List ℕ) → (add_fault tapes s loaded).number ≡ 0 → add_fault tapes s loaded ≡ 0 at 0
unfolding add_fault
accepted_place tapes s loaded e =
    let both = neither (cond (ltb tapes most_tapes) 0 10) 0 (whole_fault s loaded) e in
    let passed = whole_passed s loaded both.1 in
    at_zero (whole_fault s loaded) (cond (ltb tapes most_tapes) 0 10 at 0) both.0 ∙ whole_faultless s loaded passed.0 passed.1
