-- `arguments::scan::read_seen`: a turn looks at one word more, from `one_further`.
use Rattle.std.proofs.Common.{◌-◌, ◌≤◌}
use Rattle.arguments.specs.Starts.{SeenBefore}
use Rattle.arguments.proofs.scan.read_seen.Given as goal

abbrev pub invariant-loop-place : goal.invariant-loop-place
invariant-loop-place g l = (l.place - 1 ≤ l.fn.end - 1) × SeenBefore l.fn.form l.place l.seen
