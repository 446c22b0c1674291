-- `tapeplan::whole::machine_of`: the head decides, or the steps do.
use Rattle.std.proofs.Common.{◌≡◌, ◌<◌, rules, sym, ◌∙◌, Err}
use Rattle.tape.specs.Answers.{head_refusal}
use Rattle.tape.proofs.Checks.{head_given, head_refused}
use Rattle.tapeplan.proofs.Answered.{start_loaded, start_refused}
use Rattle.tapeplan.proofs.whole.machine_of.Goals as goal

pub returns-in_err-read_head : goal.returns-in_err-read_head
returns-in_err-read_head c =
    let s = c.args.s.now in
    let r = c.in_err-read_head.field-0.0 in
    let e : c.from_residual.result ≡ Err r = search rules in
    let head = head_refused s (sym c.in_err-read_head.ensures) in
    let above : 0 < head_refusal s = rw head.1 head.0 in
    rw e (start_refused s c.args.steps.now r above head.1)

pub returns : goal.returns
returns c =
    let a = c.args in
    let head = head_given a.s.now (sym c.in_ok-read_head.ensures) in
    c.with_steps.ensures ∙ start_loaded a.s.now a.steps.now head.0 (sym head.1.0)
