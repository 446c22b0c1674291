-- `rs274::whole::read_lines` meets its contract: before each line, what is still to be read leads to the end.
use Rattle.std.proofs.Common.{◌≤◌, ◌+◌, length}
use Rattle.rs274.proofs.Reading.{Reading}
use Rattle.rs274.proofs.whole.read_lines.Given as goal

abbrev pub invariant-loop-rest : goal.invariant-loop-rest
invariant-loop-rest l = (l.place + length l.rest ≤ length l.text) × Reading l.text l.kept l.m l.place l.rest

abbrev pub decreases-loop-rest : goal.decreases-loop-rest
decreases-loop-rest l = length l.rest
