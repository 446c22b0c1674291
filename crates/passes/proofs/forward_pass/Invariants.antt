-- `passes::forward_pass`: up to junction k the list holds the forward pass, behind it the backward pass.
use Rattle.profile.proofs.InPlace.{InPlace}
use Rattle.passes.proofs.forward_pass.Given as goal

abbrev pub invariant-loop-k : goal.invariant-loop-k
invariant-loop-k l = InPlace l.start l.line l.list l.k
