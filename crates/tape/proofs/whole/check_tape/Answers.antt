-- `tape::whole::check_tape` meets its contract: the head's fault comes before the records'. From what `read_head` and `check_records` ensure.
use mathlib.Core.Path.{◌≡◌, sym, ap, ◌∙◌}
use Prim.Native.Nat.{ℕ}
use Rattle.std.proofs.Common.{rules, Err}
use Rattle.display.specs.Display.{Fault, ◌at◌}
use Rattle.tape.specs.Answers.{by_fault, check_records, check_tape}
use Rattle.tape.proofs.Answers.{faulty}
use Rattle.tape.proofs.Checks.{head_given, head_refused}
use Rattle.tape.proofs.Faults.{fault_records, fault_head}
use Rattle.tape.proofs.whole.check_tape.Goals as goal

pub returns-in_err-read_head : goal.returns-in_err-read_head
unfolding check_tape
returns-in_err-read_head c =
    let s = c.args.s.now in
    let r = c.in_err-read_head.field-0.0 in
    let e : c.from_residual.result ≡ Err record { why = r; place = 0 } = search rules in
    let h = head_refused s (sym c.in_err-read_head.ensures) in
    rw e (faulty s r 0 (fault_head s (rw h.1 h.0) ∙ ap (λ (n : ℕ). n at 0) h.1))

pub returns : goal.returns
unfolding check_records check_tape
returns c =
    let s = c.args.s.now in
    c.check_records.ensures ∙ ap (λ (f : Fault). by_fault f s) (sym (fault_records s (head_given _ (sym c.in_ok-read_head.ensures)).0))
