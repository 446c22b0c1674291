-- `order_text::run_chunk`: before event k those before it have been run, each line behind the one before it. From `ran_none` and `ran_more`.
use mathlib.Core.List.{List}
use Prim.Native.Nat.{ℕ, ◌*◌, ◌≤◌}
use Rattle.fields.specs.Records.{each_record}
use Rattle.host.specs.Events.{Held}
use Rattle.replay_text.specs.Chunks.{line_bytes}
use Rattle.replay_text.specs.Runs.{RanText}
use Rattle.order_text.specs.Orders.{event_bytes, event_of}
use Rattle.order_text.specs.Texts.{recorded_events}
use Rattle.order_text.proofs.run_chunk.Given as goal

abbrev pub held : (memory host : List ℕ) → Held
held memory host = record { memory = memory; host = host }

abbrev pub invariant-loop-k : goal.invariant-loop-k
invariant-loop-k l = record {
  few : l.end ≤ line_bytes * l.k;
  ran : RanText recorded_events (each_record event_bytes event_of l.bytes 0 l.k) (held l.initial.memory l.initial.host) (held l.memory l.host) l.initial.text l.end l.text;
}
