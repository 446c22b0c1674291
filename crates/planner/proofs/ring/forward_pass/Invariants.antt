-- `planner::ring::forward_pass`: up to junction k the list holds the forward pass, behind it the backward pass. From the laws of the passes in place, with the reach read of block k.
use Rattle.std.proofs.Common.{◌≡◌, ◌+◌, length}
use Rattle.profile.proofs.InPlace.{InPlace}
use Rattle.line.specs.Ring.{spans_in}
use Rattle.planner.specs.View.{view_of}
use Rattle.planner.proofs.ring.forward_pass.Given as goal

abbrev pub invariant-loop-k : goal.invariant-loop-k
invariant-loop-k l = (length l.list ≡ l.n + 1) × InPlace (view_of l.memory).committed (spans_in (view_of l.memory) l.n 0) l.list l.k
