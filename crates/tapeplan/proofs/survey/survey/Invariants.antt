-- `tapeplan::survey::survey` meets its contract: before record k those before it are surveyed. From `survey_next`, `survey_all` and the tape's faults.
use Rattle.tapeplan.proofs.Surveys.{Surveying}
use Rattle.tapeplan.proofs.survey.survey.Given as goal

abbrev pub invariant-loop-k : goal.invariant-loop-k
invariant-loop-k l = Surveying l.m l.s l.initial.sheet l.sheet l.line l.before l.known l.k-counter
