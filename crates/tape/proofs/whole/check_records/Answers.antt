-- `tape::whole::check_records` meets its contract: before record k those before it have passed. From `passed_next`, `refused_at_lem` and `fault_none`.
use mathlib.Core.Path.{◌≡◌, sym, ap, ◌∙◌}
use Prim.Native.Nat.{◌<◌, ◌+◌}
use native.Mathlib.Omega.{arith}
use Rattle.std.proofs.Common.{Ok, Err, Result, rules, refl}
use Rattle.std.specs.Prelude.{⊤}
use Rattle.machine.specs.Checks.{block_refusal}
use Rattle.display.specs.Display.{checked_means, given, placed_outcome_of}
use Rattle.display.specs.declared.Refusal.{Refusal}
use Rattle.tape.specs.Tape.{record_at, records_in}
use Rattle.tape.specs.Answers.{check_records}
use Rattle.tape.proofs.Answers.{faulty, faultless}
use Rattle.tape.proofs.Faults.{passed_next, refused_at_lem, fault_none}
use Rattle.tape.proofs.whole.check_records.Goals as goal
use Rattle.tape.proofs.whole.check_records.Goals.{After-check_block}

-- a turn whose record is checked
module _ (c : After-check_block) where
  here : c.loop-k.k-counter < records_in c.args.s.now
  here = omega (arith, c.loop-k-test.true, c.records_in-n.ensures)

  number : block_refusal (record_at c.args.s.now c.loop-k.k-counter) ≡ checked_means c.check_block.result
  number = ap block_refusal (sym c.block_at.ensures) ∙ sym c.check_block.ensures

pub returns-in_err-map_err : goal.returns-in_err-map_err
unfolding check_records
returns-in_err-map_err c = by c.check_block.result refl
  where
    by : (r : Result ⊤ Refusal) → c.check_block.result ≡ r → placed_outcome_of c.from_residual.result ≡ check_records c.args.s.now
    by (Ok x) p =
        let none : ⊥ = search rules in
        absurd none
    by (Err why) p =
        let s = c.args.s.now in
        let turn = (goal.at.returns-in_err-map_err c).After-check_block in
        let told = rw p at c.map_err.ensures.cases in
        let e : c.from_residual.result ≡ Err record { why = why; place = c.loop-k.k-counter + 1 } = search rules in
        ap placed_outcome_of e ∙ faulty s why _ (refused_at_lem s why c.loop-k.invariant (here turn) (number turn ∙ ap checked_means p))

pub loop-k-preserved : goal.loop-k-preserved
loop-k-preserved c =
    let e : c.check_block.result ≡ Ok c.in_ok-map_err.field-0 = search rules in
    passed_next c.args.s.now c.loop-k.invariant (here (goal.at.loop-k-preserved c).After-check_block) (number (goal.at.loop-k-preserved c).After-check_block ∙ ap checked_means e)

pub returns : goal.returns
unfolding check_records
returns c =
    let s = c.args.s.now in
    ap given c.records_in-n.ensures ∙ faultless s (fault_none s c.loop-k.invariant (omega (arith, c.loop-k-test.false, c.records_in-n.ensures)))
