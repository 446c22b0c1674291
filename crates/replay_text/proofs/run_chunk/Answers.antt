-- `replay_text::run_chunk`: before call k those before it have been run, each line behind the one before it. From `ran_none` and `ran_more`.
use native.Mathlib.Omega.{arith}
use Rattle.replay_text.specs.Texts.{recorded_calls}
use Rattle.replay_text.proofs.Runs.{ran_none, ran_more}
use Rattle.replay_text.proofs.run_chunk.Goals as goal

pub loop-k-init : goal.loop-k-init
loop-k-init c = record { few = omega arith; ran = ran_none recorded_calls c.args.bytes.now c.args.memory.now c.args.text.now }

pub loop-k-preserved : goal.loop-k-preserved
loop-k-preserved c =
    record {
      few = omega (arith, c.write_answer-end.ensures.few);
      ran =
          ran_more recorded_calls c.args.bytes.now c.loop-k.k _ (omega arith) c.loop-k.invariant.ran c.read_call.ensures c.call-answer.ensures
          c.write_answer-end.ensures;
    }
