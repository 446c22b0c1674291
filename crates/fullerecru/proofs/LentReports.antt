-- From what a report promises to the promise of its function for C; two outcomes that meet it are equal.
use mathlib.Core.List.{List, ◌∷◌, []}
use mathlib.Core.Path.{◌≡◌, refl, sym, ap, ◌∙◌}
use Prim.Native.Nat.{ℕ}
use Rattle.display.specs.Display.{Fault, given, refused, fault_of}
use Rattle.display.specs.declared.RefusedAt.{RefusedAt}
use Rattle.display.proofs.Answers.{above_zero, at_zero, given_is, refused_is}
use Rattle.report.specs.Figures.{figure_numbers, figures_of}
use Rattle.report.specs.Report.{Reported, add_answer, add_fault, tapes_in}
use Rattle.report.specs.declared.Figures.{Figures}
use Rattle.report.proofs.Answers.{accepted_place}
use Rattle.fullerecru.specs.Reports.{ReportLent}

module _ (report tape loaded : List ℕ) where
  abbrev fault : Fault
  fault = add_fault (tapes_in report) tape loaded

  -- the tape is accepted,
  pub report_added : {report' figures' place' : List ℕ} (figures : List ℕ) (f : Figures) → Reported report tape loaded (given f) report' → figures' ≡ figure_numbers f → place' ≡ 0 ∷ []
      → ReportLent report tape loaded 0 report' figures figures' place'
  report_added figures f r stored p =
      let g = given_is (figures_of tape loaded) fault fault.number r.answered in
      record {
        number_is = sym g.0;
        place_is = p ∙ ap (λ (x : Fault). x.place ∷ []) (sym (accepted_place (tapes_in report) tape loaded g.0));
        figures_are = stored ∙ ap figure_numbers g.1 ∙ sym (at_zero (figure_numbers (figures_of tape loaded)) figures g.0);
        report_is = r.left;
      }

  -- or refused
  pub report_refused : {report' place' : List ℕ} (figures : List ℕ) {n : ℕ} (r : RefusedAt) → Reported report tape loaded (refused (fault_of r)) report' → place' ≡ (fault_of r).place ∷ []
      → n ≡ (fault_of r).number → ReportLent report tape loaded n report' figures figures place'
  report_refused figures _ r p e =
      let g = refused_is (figures_of tape loaded) fault fault.number r.answered in
      record {
        number_is = e ∙ ap (λ (f : Fault). f.number) g.1;
        place_is = p ∙ ap (λ (f : Fault). f.place ∷ []) g.1;
        figures_are = sym (above_zero (figure_numbers (figures_of tape loaded)) figures g.0);
        report_is = r.left;
      }

-- What C sees of a tape is a tape reported: so for every list of tapes from a fresh report `report_sums` says what C has at last.
pub lent_reported : {report tape loaded report' figures figures' place' : List ℕ} {n : ℕ} → ReportLent report tape loaded n report' figures figures' place'
    → Reported report tape loaded (add_answer (tapes_in report) tape loaded) report'
lent_reported l = record { answered = refl; left = l.report_is }

-- From the promises alone each result and each lent number can be worked out.
pub reported_one : {report tape loaded a b figures c d p q : List ℕ} {n k : ℕ} → ReportLent report tape loaded n a figures c p → ReportLent report tape loaded k b figures d q
    → (n ≡ k) × (a ≡ b) × (c ≡ d) × (p ≡ q)
reported_one x y = (x.number_is ∙ sym y.number_is, x.report_is ∙ sym y.report_is, x.figures_are ∙ sym y.figures_are, x.place_is ∙ sym y.place_is)
