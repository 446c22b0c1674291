-- What is written chunk by chunk, then for a cut call and at the end, is the text of the whole trace. From the laws of turns and heads and the
-- planner's theorem.
use mathlib.Core.Path.{◌≡◌, ap, ◌∙◌}
use mathlib.Core.List.{List, ◌++◌}
use Prim.Native.Nat.{ℕ, ◌-◌, ◌<◌}
use native.Mathlib.Omega.{arith}
use lib.ListN.{length, take, drop}
use Rattle.fields.specs.Records.{cut_place}
use Rattle.machine.specs.Torque.{machine_of}
use Rattle.machine.specs.declared.Limits.{Limits}
use Rattle.line.specs.Blocks.{fresh_line}
use Rattle.planner.specs.Calls.{Freshened}
use Rattle.planner.proofs.Demand.{called_line}
use Rattle.tape.specs.Tape.{limits_bytes, limits_at}
use Rattle.display.specs.Display.{given, refused}
use Rattle.tape.specs.Answers.{read_limits}
use Rattle.replay.specs.Trace.{call_bytes, trace_calls, whole_calls}
use Rattle.text.specs.Text.{refused_at}
use Rattle.replay_text.specs.Texts.{answers_text, cut_text, recorded_calls, calls_text, replay_text}
use Rattle.replay_text.specs.Runs.{Closed}
use Rattle.replay_text.specs.Turns.{chunks_joined, Chunked, place_in, Turns}
use Rattle.replay_text.proofs.Heads.{limits_refused, steps_refused, head_passed}
use Rattle.replay_text.proofs.Runs.{closed_line}
use Rattle.replay_text.proofs.Turns.{turns_whole, place_input}

module _ (s loaded : List ℕ) where
  -- the place of a trace's cut call, and the text of its calls
  abbrev place : ℕ
  place = cut_place call_bytes 0 (length s - limits_bytes)

  abbrev body : List ℕ
  body = calls_text (machine_of (limits_at s) loaded) (trace_calls s) place

  -- A trace or steps that are refused have that one line, by the limits,
  pub refusal_written : {n : ℕ} → read_limits (take limits_bytes s) ≡ refused n → refused_at n 0 ≡ replay_text s loaded
  unfolding replay_text
  refusal_written e = limits_refused s loaded body e

  -- or by the steps, which the planner refuses.
  pub steps_written : {l : Limits} {n : ℕ} {m₀ m : List ℕ} → read_limits (take limits_bytes s) ≡ given l → Freshened m₀ l loaded n m → 0 < n → refused_at n 0 ≡ replay_text s loaded
  unfolding replay_text
  steps_written e f h = steps_refused s loaded body e f h

  -- Any other trace: what is written chunk by chunk from a fresh planner, then the line of a cut call, and then the closing lines are its whole text.
  pub trace_written : {l : Limits} {chunks : List (List ℕ)} {m₀ m m' written text text' : List ℕ} {n end : ℕ} → read_limits (take limits_bytes s) ≡ given l
      → Freshened m₀ l loaded n m → n ≡ 0 → chunks_joined chunks ≡ drop limits_bytes s → Chunked recorded_calls chunks → Turns recorded_calls chunks m m' written
      → Closed m' text end text' → written ++ cut_text (place_in recorded_calls 0 chunks) ++ take end text' ≡ replay_text s loaded
  unfolding replay_text
  trace_written {l} {chunks} e f passed j c r closing =
      let head = head_passed s loaded body e f passed in
      let ran = turns_whole recorded_calls (omega arith) c r in
      let run = called_line ran.called (fresh_line (machine_of l loaded)) (f.line passed) in
      let cut : place_in recorded_calls 0 chunks ≡ place = place_input recorded_calls (omega arith) s chunks c j in
      (λ i. (ran.all_is ∙ ap answers_text run.0) i ++ cut_text (cut i) ++ closed_line closing _ run.1 i)
      ∙ (λ i. calls_text (machine_of (head.1 i) loaded) (whole_calls (j i)) place)
      ∙ head.0
