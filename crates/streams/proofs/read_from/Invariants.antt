-- `streams::read_from` ends: each turn leaves less room.
use Rattle.std.proofs.Common.{length, ◌-◌, ◌≤◌}
use Rattle.streams.proofs.read_from.Given as goal

abbrev pub invariant-loop-got : goal.invariant-loop-got
invariant-loop-got g l = l.got ≤ length l.list

abbrev pub decreases-loop-got : goal.decreases-loop-got
decreases-loop-got g l = length l.list - l.got
