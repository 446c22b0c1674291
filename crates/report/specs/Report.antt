-- The report over many tapes: how many were accepted since it was fresh, and the figures of all of them, as eight numbers that the caller lends; and
-- what a list of tapes from a fresh report comes to.
use Rattle.std.specs.Prelude.{◌≡◌, ℕ, suc, ◌+◌, ◌%◌, ◌^◌, ◌≤◌, max, cond, List, [], ◌∷◌, length, nat_lt}
use Rattle.display.specs.Display.{Fault, Outcome, by_number, ◌at◌, ◌else◌}
use Rattle.profile.specs.Line.{number_at}
use Rattle.line.specs.Chains.{Chain}
use Rattle.tapeplan.specs.Planned.{whole_fault}
use Rattle.report.specs.Figures.{figured_by, figure_numbers, figures_of, no_figures}
use Rattle.report.specs.declared.Figures.{Figures}

-- tapes that a report accepts at most, and its numbers: how many were accepted, and the seven figures of all
abbrev pub most_tapes : ℕ
most_tapes = 100

abbrev pub tapes_in : (report : List ℕ) → ℕ
tapes_in report = number_at report 0

abbrev pub all_of : (report : List ℕ) → Figures
all_of report =
    record {
      blocks = number_at report 1;
      length = number_at report 2;
      peak = number_at report 3;
      feed = number_at report 4;
      corner = number_at report 5;
      chord = number_at report 6;
      reach = number_at report 7;
    }

abbrev pub report_numbers : (tapes : ℕ) → Figures → List ℕ
report_numbers tapes f = tapes ∷ figure_numbers f

-- a fresh report: all of them 0
abbrev pub fresh_report : List ℕ
fresh_report = report_numbers 0 no_figures

-- a sum in 64 bits, which is never cut from a fresh report on (the law `report_sums`)
abbrev pub added : (a b : ℕ) → ℕ
added a b = (a + b) % 2 ^ 64

-- the figures of all with those of one more tape: sums, and the greater peak
unfoldable pub with_figures : (all f : Figures) → Figures
with_figures all f =
    record {
      blocks = added all.blocks f.blocks;
      length = added all.length f.length;
      peak = max all.peak f.peak;
      feed = added all.feed f.feed;
      corner = added all.corner f.corner;
      chord = added all.chord f.chord;
      reach = added all.reach f.reach;
    }

-- one more tape after so many: 10 after 100 accepted, checked first, then the whole tape's checks
unfoldable pub add_fault : (tapes : ℕ) (s loaded : List ℕ) → Fault
add_fault tapes s loaded = (cond (nat_lt tapes most_tapes) 0 10 at 0) else whole_fault s loaded

-- what it is answered: its own figures, or the refusal
abbrev pub add_answer : (tapes : ℕ) (s loaded : List ℕ) → Outcome Fault Figures
add_answer tapes s loaded = figured_by (add_fault tapes s loaded) (figures_of s loaded)

-- the report's numbers behind it: a refused tape adds nothing
abbrev pub report_after : (report s loaded : List ℕ) → List ℕ
report_after report s loaded =
    by_number (add_fault (tapes_in report) s loaded).number (report_numbers (tapes_in report + 1) (with_figures (all_of report) (figures_of s loaded))) report

-- A tape with loaded torque steps reported, whatever the report's numbers are.
pub record Reported (report s loaded : List ℕ) (answer : Outcome Fault Figures) (report' : List ℕ) : Type 0 where
  pub answered : answer ≡ add_answer (tapes_in report) s loaded
  pub left : report' ≡ report_after report s loaded

-- Tapes one after the other, each reported on the numbers that the one before it left.
pub record Job : Type 0 where
  pub tape : List ℕ
  pub steps : List ℕ

abbrev pub JobDone : (report : List ℕ) → Job → Outcome Fault Figures → (report' : List ℕ) → Type 0
JobDone report j answer report' = Reported report j.tape j.steps answer report'

abbrev pub ReportedAll : (report : List ℕ) → List Job → List (Outcome Fault Figures) → (report' : List ℕ) → Type 0
ReportedAll = Chain JobDone

-- From the tapes alone, so many being accepted before them: what each is answered,
unfoldable pub answers_to : (tapes : ℕ) → List Job → List (Outcome Fault Figures)
answers_to tapes [] = []
answers_to tapes (j ∷ jobs) =
    let fault = add_fault tapes j.tape j.steps in
    add_answer tapes j.tape j.steps ∷ by_number fault.number (answers_to (suc tapes) jobs) (answers_to tapes jobs)

-- and the figures of those that are accepted
unfoldable pub accepted_of : (tapes : ℕ) → List Job → List Figures
accepted_of tapes [] = []
accepted_of tapes (j ∷ jobs) =
    let fault = add_fault tapes j.tape j.steps in
    by_number fault.number (figures_of j.tape j.steps ∷ accepted_of (suc tapes) jobs) (accepted_of tapes jobs)

-- a sum over figures, and the greatest over them
unfoldable pub sum_of : (Figures → ℕ) → List Figures → ℕ
sum_of of [] = 0
sum_of of (f ∷ list) = of f + sum_of of list

unfoldable pub greatest_of : (Figures → ℕ) → List Figures → ℕ
greatest_of of [] = 0
greatest_of of (f ∷ list) = max (of f) (greatest_of of list)

-- the figures of all of them: exact sums, and the greatest peak
abbrev pub total_of : List Figures → Figures
total_of list =
    record {
      blocks = sum_of (λ f. f.blocks) list;
      length = sum_of (λ f. f.length) list;
      peak = greatest_of (λ f. f.peak) list;
      feed = sum_of (λ f. f.feed) list;
      corner = sum_of (λ f. f.corner) list;
      chord = sum_of (λ f. f.chord) list;
      reach = sum_of (λ f. f.reach) list;
    }

-- What a list of tapes from a fresh report comes to: the answers, how many are accepted, at most 100, and the report's numbers, exact.
pub record ReportOf (jobs : List Job) (answers : List (Outcome Fault Figures)) (report : List ℕ) : Type 0 where
  pub answers_are : answers ≡ answers_to 0 jobs
  pub few : length (accepted_of 0 jobs) ≤ most_tapes
  pub numbers_are : report ≡ report_numbers (length (accepted_of 0 jobs)) (total_of (accepted_of 0 jobs))
