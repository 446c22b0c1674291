-- `replay_text::run_chunk`: before call k those before it have been run, each line behind the one before it. From `ran_none` and `ran_more`.
use Prim.Native.Nat.{◌*◌, ◌≤◌}
use Rattle.replay.specs.Trace.{calls_from}
use Rattle.replay_text.specs.Chunks.{line_bytes}
use Rattle.replay_text.specs.Runs.{RanText}
use Rattle.replay_text.specs.Texts.{recorded_calls}
use Rattle.replay_text.proofs.run_chunk.Given as goal

abbrev pub invariant-loop-k : goal.invariant-loop-k
invariant-loop-k l = record {
  few : l.end ≤ line_bytes * l.k;
  ran : RanText recorded_calls (calls_from l.bytes 0 l.k) l.initial.memory l.memory l.initial.text l.end l.text;
}
