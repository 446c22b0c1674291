-- `report::add`: how many tapes were accepted decides, and then the tape's own checks. From the laws of answers.
use Rattle.std.proofs.Common.{◌≡◌, ◌+◌, rules, ap, ◌∙◌, arith, Err}
use Rattle.display.specs.declared.Refusal.TheVariants as why
use Rattle.display.proofs.Answers.{given_is, refused_is}
use Rattle.tapeplan.specs.Planned.{whole_fault, whole_refusal}
use Rattle.report.specs.Figures.{figures_of, tape_figures}
use Rattle.report.specs.Report.{report_numbers, tapes_in, with_figures}
use Rattle.report.specs.declared.Figures.{Figures}
use Rattle.report.proofs.Answers.{reported_added, reported_many, reported_refused}
use Rattle.report.proofs.add.Goals as goal

pub returns-then-tapes-ge-MOST_TAPES : goal.returns-then-tapes-ge-MOST_TAPES
returns-then-tapes-ge-MOST_TAPES c =
    let a = c.args in
    let e : c.into.result ≡ record { why = why.Many; place = 0 } = search rules in
    rw e (reported_many a.report.now a.tape.now a.steps.now c.if-tapes-ge-MOST_TAPES.true)

pub returns-in_err-f : goal.returns-in_err-f
unfolding tape_figures
returns-in_err-f c =
    let a = c.args in
    let r = c.in_err-f.field-0.0 in
    let e : c.from_residual.result ≡ Err r = search rules in
    rw e (reported_refused a.report.now a.tape.now a.steps.now r.why r.place (omega (arith, c.if-tapes-ge-MOST_TAPES.false))
    (refused_is (figures_of a.tape.now a.steps.now) (whole_fault a.tape.now a.steps.now) (whole_refusal a.tape.now a.steps.now) c.in_err-f.ensures).1)

pub returns : goal.returns
unfolding tape_figures
returns c =
    let a = c.args in
    let is = given_is (figures_of a.tape.now a.steps.now) (whole_fault a.tape.now a.steps.now) (whole_refusal a.tape.now a.steps.now) c.in_ok-f.ensures in
    reported_added a.report.now a.tape.now a.steps.now (omega (arith, c.if-tapes-ge-MOST_TAPES.false)) is.0 is.1
    (c.store.ensures ∙ ap (report_numbers (tapes_in a.report.now + 1)) (c.with_figures-sum.ensures ∙ ap (λ (g : Figures). with_figures g c.in_ok-f.f) c.all.ensures))
