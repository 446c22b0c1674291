-- `planner::ring::brake_pass`: from junction k on the list holds the backward pass. From the laws of the pass in place, with the numbers read for block k.
use Rattle.std.proofs.Common.{◌≡◌, ◌+◌, length}
use Rattle.profile.specs.Line.{number_at}
use Rattle.profile.specs.Passes.{Braked}
use Rattle.line.specs.Ring.{spans_in}
use Rattle.planner.specs.View.{view_of}
use Rattle.planner.proofs.ring.brake_pass.Given as goal

abbrev pub invariant-loop-k : goal.invariant-loop-k
invariant-loop-k l = (length l.list ≡ l.n + 1) × Braked (spans_in (view_of l.memory) l.n 0) (number_at l.list) l.k
