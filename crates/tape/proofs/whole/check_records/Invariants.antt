-- `tape::whole::check_records` meets its contract: before record k those before it have passed. From `passed_next`, `refused_at_lem` and `fault_none`.
use Rattle.tape.proofs.Faults.{PassedBefore}
use Rattle.tape.proofs.whole.check_records.Given as goal

abbrev pub invariant-loop-k : goal.invariant-loop-k
invariant-loop-k l = PassedBefore l.s l.k-counter
