-- `replay::run` meets its contract: before call k those before it have been run, each into its row. From `ran_none` and `ran_stored`.
use mathlib.Core.Path.{◌≡◌}
use Prim.Native.Nat.{◌*◌}
use lib.ListN.{length, take}
use Rattle.planner.specs.Calls.{Called}
use Rattle.replay.specs.Trace.{calls_from}
use Rattle.replay.specs.Rows.{row_of, row_size}
use Rattle.replay.specs.Runs.{Ran}
use Rattle.replay.proofs.run.Given as goal

abbrev pub invariant-loop-k : goal.invariant-loop-k
invariant-loop-k l = (length l.answers ≡ row_size * l.n) × Ran Called row_of (calls_from l.bytes 0 l.k) l.initial.memory l.memory (take (row_size * l.k) l.answers)
