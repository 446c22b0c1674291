-- `rs274::whole::read_lines` meets its contract: before each line, what is still to be read leads to the end.
use Rattle.std.proofs.Common.{◌∙◌, ◌<◌, ◌+◌, ◌-◌, ℕ, List, ap, arith, length, drop, length-drop, sym, ◌≡◌, Ok, Err, Result, refl, rules}
use borrow.Author.Tests.{eqb-true, eqb-false}
use lib.Seq.{take_all}
use native.Mathlib.Nat.{le_of_eq}
use Rattle.display.specs.declared.Refusal.{Refusal}
use Rattle.rs274.specs.declared.Modal.{Modal}
use Rattle.rs274.specs.Kept.{Reads}
use Rattle.rs274.specs.Text.{text_run}
use Rattle.rs274.proofs.Reading.{behind_is, line_is, reading_begins, reading_ends, reading_next, reading_stops}
use Rattle.rs274.proofs.whole.read_lines.Goals as goal

pub loop-rest-init : goal.loop-rest-init
loop-rest-init c = (omega arith, reading_begins c.args.text.now c.args.kept.now c.begin-m.result c.begin-m.ensures c.requires)

pub returns-in_err-m : goal.returns-in_err-m
returns-in_err-m c = by c.take_line.result refl
  where
    by : (r : Result Modal Refusal) → c.take_line.result ≡ r → Reads (text_run c.args.text.now) c.from_residual.result c.take_line.new.kept
    by (Ok x) p =
        let none : ⊥ = search rules in
        absurd none
    by (Err why) p =
        let told = rw p at c.map_err.ensures.cases in
        let q = c.loop-rest in
        let e : c.from_residual.result ≡ Err record { why = why; place = q.place + 1 } = search rules in
        let rest = q.rest.now in
        let here : 0 < length rest = omega (arith, eqb-false (length rest) 0 (sym c.is_empty.ensures ∙ c.loop-rest-test.true)) in
        let r = q.invariant.1 in
        rw e (reading_stops c.args.text.now q.kept q.m q.place rest r _ (line_is rest c.line_length-size.result c.line_length-size.ensures) here
        c.take_line.new.kept why (rw p at (c.take_line.ensures r.blocks r.holds)))

pub loop-rest-preserved : goal.loop-rest-preserved
loop-rest-preserved c =
    let e : c.take_line.result ≡ Ok c.in_ok-m.m = search rules in
    let q = c.loop-rest in
    let rest = q.rest.now in
    let here : 0 < length rest = omega (arith, eqb-false (length rest) 0 (sym c.is_empty.ensures ∙ c.loop-rest-test.true)) in
    let r = q.invariant.1 in
    let k = c.min.result in
    let all = take_all (length rest - k) (drop k rest) (le_of_eq (length-drop k rest)) in
    let behind = all ∙ ap (λ (n : ℕ). drop n rest) c.min.ensures ∙ behind_is rest c.line_length-size.result c.line_length-size.ensures in
    let shorter = ap (λ (l : List ℕ). length l) all ∙ length-drop k rest in (
      omega (arith, shorter, here, c.min.ensures, q.invariant.0),
      reading_next c.args.text.now q.kept q.m q.place rest r _ (line_is rest c.line_length-size.result c.line_length-size.ensures) here
          c.take_line.new.kept c.in_ok-m.m _ behind (rw e at (c.take_line.ensures r.blocks r.holds)),
    )

pub returns : goal.returns
returns c =
    let q = c.loop-rest in
    reading_ends c.args.text.now q.kept q.m q.place q.rest.now q.invariant.1 (eqb-true (length q.rest.now) 0 (sym c.is_empty.ensures ∙ c.loop-rest-test.false))
