-- `order_text::run_chunk`: before event k those before it have been run, each line behind the one before it. From `ran_none` and `ran_more`.
use native.Mathlib.Omega.{arith}
use Rattle.replay_text.proofs.Runs.{ran_none, ran_more}
use Rattle.order_text.specs.Texts.{recorded_events}
use Rattle.order_text.proofs.run_chunk.Invariants.{held}
use Rattle.order_text.proofs.run_chunk.Goals as goal

pub loop-k-init : goal.loop-k-init
loop-k-init c = let s = c.args in record { few = omega arith; ran = ran_none recorded_events s.bytes.now (held s.memory.now s.host.now) s.text.now }

pub loop-k-preserved : goal.loop-k-preserved
loop-k-preserved c =
    record {
      few = omega (arith, c.write_answer-end.ensures.few);
      ran =
          ran_more recorded_events c.args.bytes.now c.loop-k.k _ (omega arith) c.loop-k.invariant.ran c.read_event.ensures c.event-answer.ensures
          c.write_answer-end.ensures;
    }
