-- `passes::brake_pass`: from junction k on the list holds the backward pass.
use Rattle.profile.specs.Line.{number_at}
use Rattle.profile.specs.Passes.{Braked}
use Rattle.passes.proofs.brake_pass.Given as goal

abbrev pub invariant-loop-k : goal.invariant-loop-k
invariant-loop-k l = Braked l.line (number_at l.list) l.k
