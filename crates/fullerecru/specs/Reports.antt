-- What the functions for C on reports return and leave in the lists that they are lent.
use Rattle.std.specs.Prelude.{List, ◌∷◌, [], ◌≡◌, ℕ}
use Rattle.display.specs.Display.{by_number}
use Rattle.report.specs.Figures.{figure_numbers, figures_of}
use Rattle.report.specs.Held.{held_list, inner_in}
use Rattle.report.specs.Report.{add_fault, report_after, tapes_in}
use Rattle.fullerecru.specs.Plans.{FilledLent}

-- A tape reported with loaded torque steps: the number on the display, the place of the record at fault, the tape's figures in the list for
-- them, which is as it was where the tape is refused, and the report's numbers.
pub record ReportLent (report tape loaded : List ℕ) (number : ℕ) (report' figures figures' place' : List ℕ) : Type 0 where
  pub number_is : number ≡ (add_fault (tapes_in report) tape loaded).number
  pub place_is : place' ≡ (add_fault (tapes_in report) tape loaded).place ∷ []
  pub figures_are : figures' ≡ by_number (add_fault (tapes_in report) tape loaded).number (figure_numbers (figures_of tape loaded)) figures
  pub report_is : report' ≡ report_after report tape loaded

-- What held each inner junction of a tape, in a list of as many numbers.
abbrev pub HeldLent : (tape loaded : List ℕ) (number : ℕ) (list list' place' : List ℕ) → Type 0
HeldLent tape loaded number list list' place' = FilledLent tape loaded (inner_in tape) (held_list tape loaded) number list list' place'
