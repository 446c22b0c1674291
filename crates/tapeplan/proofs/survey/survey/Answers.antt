-- `tapeplan::survey::survey` meets its contract: before record k those before it are surveyed. From `survey_next`, `survey_all` and the tape's faults.
use Rattle.std.proofs.Common.{◌≡◌, ◌≤◌, ◌+◌, arith, sym, refl, ap, subst, ◌∙◌, not-suc-le-zero, Ok, Err, Result, rules}
use Rattle.std.specs.Prelude.{⊤}
use Rattle.machine.specs.Checks.{block_refusal}
use Rattle.machine.specs.Numbers.{numbers_of}
use Rattle.machine.specs.declared.Gauged.{Gauged}
use Rattle.machine.specs.declared.Numbers.{Numbers}
use Rattle.machine.proofs.CapLaws.{block_cap_below}
use Rattle.tape.specs.Tape.{records_in}
use Rattle.tape.specs.Answers.{check_records}
use Rattle.display.specs.Display.{Fault, checked_means, given, placed_outcome_of}
use Rattle.display.specs.declared.Refusal.{Refusal}
use Rattle.display.proofs.Answers.{refusal_above}
use Rattle.tape.proofs.Answers.{faulty, faultless}
use Rattle.tape.proofs.Faults.{passed_none, refused_at_lem, fault_none}
use Rattle.tapeplan.proofs.Surveys.{known_joinable, survey_next, survey_all}
use Rattle.tapeplan.specs.Sheet.{Measures}
use Rattle.tapeplan.specs.Survey.{Surveyed}
use Rattle.tapeplan.proofs.survey.survey.Goals as goal
use Rattle.tapeplan.proofs.survey.survey.Goals.{In_ok-map_err}

pub loop-k-init : goal.loop-k-init
loop-k-init c =
    record {
      passed = passed_none _;
      measured = record { rows = λ i h. absurd (not-suc-le-zero h); later = λ i h. refl };
      filled = λ i h. absurd (not-suc-le-zero h);
      previous = λ h. absurd (not-suc-le-zero h);
    }

pub returns-in_err-map_err : goal.returns-in_err-map_err
unfolding check_records
returns-in_err-map_err c = by c.check_block.result refl
  where
    by : (r : Result ⊤ Refusal) → c.check_block.result ≡ r → Surveyed c.args.m c.args.s.now c.args.sheet.now c.loop-k.sheet c.loop-k.line c.from_residual.result
    by (Ok x) p =
        let none : ⊥ = search rules in
        absurd none
    by (Err why) p =
        let s = c.args.s.now in
        let told = rw p at c.map_err.ensures.cases in
        let e : c.from_residual.result ≡ Err record { why = why; place = c.loop-k.k-counter + 1 } = search rules in
        let number = ap block_refusal (sym c.block_at-b.ensures) ∙ sym c.check_block.ensures ∙ ap checked_means p in
        let fault = refused_at_lem s why c.loop-k.invariant.passed (omega (arith, c.records_in-count.ensures)) number in
        let above = refusal_above why in
        record {
          answer = ap placed_outcome_of e ∙ faulty s why _ fault;
          spans = λ z. absurd (omega (arith, above, sym z ∙ ap (λ (f : Fault). f.number) fault));
          measured = λ z. absurd (omega (arith, above, sym z ∙ ap (λ (f : Fault). f.number) fault));
        }

-- a record that passes
module _ (c : In_ok-map_err) where
  checked : c.check_block.result ≡ Ok c.in_ok-map_err.field-0
  checked = search rules

  passes : block_refusal c.block_at-b.result ≡ 0
  passes = sym c.check_block.ensures ∙ ap checked_means checked

pub corner_of-corner-requires : goal.corner_of-corner-requires
unfolding numbers_of
corner_of-corner-requires c =
    let a = c.args in
    let own = passes (goal.at.corner_of-corner-requires c).In_ok-map_err in
    let numbers = ap (λ (g : Gauged). g.numbers) c.gauge-gauged.ensures in (
      λ z. known_joinable a.m a.s.now c.requires.0 (c.loop-k.invariant.previous z) own numbers,
      omega (arith, ap (λ (n : Numbers). n.cap) numbers, block_cap_below a.m.limits c.block_at-b.result own),
    )

pub loop-k-preserved : goal.loop-k-preserved
loop-k-preserved c =
    let now = c.loop-k in
    survey_next c.args.m c.args.s.now now.k-counter c.block_at-b.result c.gauge-gauged.result c.corner_of-corner.result c.cap_beside.result now.invariant
    (omega (arith, c.records_in-count.ensures)) (omega (arith, c.records_in-count.ensures)) c.block_at-b.ensures
    (passes (goal.at.loop-k-preserved c).In_ok-map_err) c.gauge-gauged.ensures c.corner_of-corner.ensures c.keep.ensures c.cap_beside.ensures

pub returns : goal.returns
unfolding check_records
returns c =
    let s = c.args.s.now in
    let all : records_in s ≤ c.loop-k.k-counter = omega (arith, c.records_in-count.ensures) in
    let every : c.loop-k.k-counter ≡ records_in s = omega (arith, c.records_in-count.ensures) in
    record {
      answer = ap given c.records_in-count.ensures ∙ faultless s (fault_none s c.loop-k.invariant.passed all);
      spans = λ z. survey_all c.args.m s c.loop-k.invariant all (omega arith);
      measured = λ z. subst (Measures c.args.m s _ _) every c.loop-k.invariant.measured;
    }
