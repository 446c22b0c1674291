-- What is written of a report line by line is its text. From the laws of a report's sums and of stored texts.
use mathlib.Core.Path.{◌≡◌, refl, ◌∙◌}
use mathlib.Core.List.{List, ◌∷◌, ◌++◌, []}
use Prim.Native.Nat.{ℕ}
use lib.ListN.{take}
use Rattle.display.specs.Display.{Fault, Outcome}
use Rattle.line.specs.Chains.{none, next}
use Rattle.text.specs.Store.{Answered}
use Rattle.std.specs.Prelude.{Some}
use Rattle.text.proofs.Store.{take_front, was_stored}
use Rattle.report.specs.Report.{Job, JobDone, ReportedAll, all_of, fresh_report}
use Rattle.report_text.specs.Text.{PutLine, all_word, figures_line, report_header, report_text, tape_line, tape_lines}
use Rattle.report.specs.declared.Figures.{Figures}
use Rattle.report.proofs.Sums.{report_figures, report_sums}

-- The header, the line of each tape's answer with its name, in order, and the line of the report's figures, from a fresh report, are the report's text.
pub report_written : {report : List ℕ} {jobs : List Job} {answers : List (Outcome Fault Figures)} (names : List (List ℕ)) → ReportedAll fresh_report jobs answers report
    → report_header ++ tape_lines answers names ++ figures_line (all_of report) all_word ≡ report_text jobs names
unfolding report_text
report_written names c = λ i. report_header ++ tape_lines ((report_sums c).answers_are i) names ++ figures_line (report_figures c i) all_word

-- The same of lines that are stored in lent bytes and written from there: each tape is reported on the numbers that the one before it left, and its
-- line is stored with its name; there are as many names as tapes.
pub data LinesPut : (report : List ℕ) (jobs : List Job) (names : List (List ℕ)) (answers : List (Outcome Fault Figures)) (report' written : List ℕ) → Type 0 where
  nothing : {report : List ℕ} → LinesPut report [] [] [] report []
  line : {report report₁ report' name text after written : List ℕ} {end : ℕ} {j : Job} {jobs : List Job} {names : List (List ℕ)} {answer : Outcome Fault Figures}
      {answers : List (Outcome Fault Figures)} → JobDone report j answer report₁ → PutLine (tape_line answer name) name text (Some end) after
      → LinesPut report₁ jobs names answers report' written → LinesPut report (j ∷ jobs) (name ∷ names) (answer ∷ answers) report' (take end after ++ written)

-- a line that is stored stands at the beginning
line_front : {text line after : List ℕ} {end : ℕ} → Answered text 0 line (Some end) after → take end after ≡ line
line_front a = take_front (was_stored refl a).1

lines_put : {report report' written : List ℕ} {jobs : List Job} {names : List (List ℕ)} {answers : List (Outcome Fault Figures)}
    → LinesPut report jobs names answers report' written → ReportedAll report jobs answers report' × (written ≡ tape_lines answers names)
unfolding tape_lines
lines_put nothing = (none, refl)
lines_put (line done put more) = let rest = lines_put more in (next done rest.0, λ i. line_front put.answered i ++ rest.1 i)

pub report_put : {report header after written text all : List ℕ} {begin end : ℕ} {jobs : List Job} {names : List (List ℕ)} {answers : List (Outcome Fault Figures)}
    → Answered header 0 report_header (Some begin) after → LinesPut fresh_report jobs names answers report written
    → PutLine (figures_line (all_of report) all_word) all_word text (Some end) all
    → take begin after ++ written ++ take end all ≡ report_text jobs names
report_put {names} h lines a =
    let tapes = lines_put lines in
    (λ i. line_front h i ++ tapes.1 i ++ line_front a.answered i) ∙ report_written names tapes.0
