-- What running a trace promises: demand 3 of its list of calls. Nothing here names what a planner keeps.
use Rattle.std.specs.Prelude.{◌≡◌, List, ◌&&◌, cond, ℕ, ◌+◌, ◌*◌, ◌<◌, eqb, length, take, drop, ⊤, Result, Ok, Err}
use Rattle.display.specs.Display.{refusal_number, checked_means, ◌then◌}
use Rattle.display.specs.declared.Refusal.{Refusal}
use Rattle.machine.specs.Torque.{machine_of, steps_refusal}
use Rattle.machine.specs.declared.Machine.{Machine}
use Rattle.line.specs.Answers.{Answer, accepted}
use Rattle.line.specs.Blocks.{most_held, Call}
use Rattle.line.specs.Demand.{Demand3}
use Rattle.planner.specs.Calls.{Freshened}
use Rattle.tape.specs.Tape.{limits_at}
use Rattle.replay.specs.Trace.{calls_in, trace_calls, trace_refusal}
use Rattle.replay.specs.Rows.{row_size, rows_of}

-- numbers of the list that is lent for the plan: as many as the longest line has junctions
abbrev pub plan_size : ℕ
plan_size = most_held + 1

-- 11 where a lent list has not the length that the trace wants, else 0
abbrev pub lists_refusal : List ℕ → (answers plan : ℕ) → ℕ
lists_refusal trace answers plan = cond (eqb answers (row_size * calls_in trace) && eqb plan plan_size) 0 11

-- 9, then 1 of the trace, and 14 of the loaded torque steps, which come before the lists
abbrev pub begin_refusal : (trace loaded : List ℕ) → ℕ
begin_refusal trace loaded = trace_refusal trace then steps_refusal loaded

-- and then 11
unfoldable pub replay_refusal : (trace loaded : List ℕ) (answers plan : ℕ) → ℕ
replay_refusal trace loaded answers plan = begin_refusal trace loaded then lists_refusal trace answers plan

-- the number on the display, 0 where the trace was run, and the number told
abbrev pub replayed_means : Result ℕ Refusal → ℕ
replayed_means (Ok told) = 0
replayed_means (Err why) = refusal_number why

abbrev pub told_in : Result ℕ Refusal → ℕ
told_in (Ok told) = told
told_in (Err why) = 0

-- A fresh planner for a trace, or a refusal.
pub record Begun (trace loaded memory : List ℕ) (r : Result ⊤ Refusal) (memory' : List ℕ) : Type 0 where
  pub number : checked_means r ≡ begin_refusal trace loaded
  pub fresh : checked_means r ≡ 0 → Freshened memory (limits_at trace) loaded 0 memory'

-- Calls that were run from a fresh planner of machine m: answers' are the rows of what the planner answered; its answers, the number
-- told and the first numbers of plan' meet demand 3; the others are as they were in plan.
pub record Demanded (m : Machine) (calls : List Call) (told : ℕ) (answers' plan plan' : List ℕ) : Type 0 where
  pub answers : List Answer
  pub rows : answers' ≡ rows_of answers
  pub demand : Demand3 m calls answers told (take (told + 1) plan) accepted (take (told + 1) plan')
  pub rest : drop (told + 1) plan' ≡ drop (told + 1) plan

-- Both lists as they were.
pub record Unchanged (answers plan answers' plan' : List ℕ) : Type 0 where
  pub answers_same : answers' ≡ answers
  pub plan_same : plan' ≡ plan

-- A trace that is run with loaded torque steps, or refused.
pub record Replays (trace loaded answers plan : List ℕ) (r : Result ℕ Refusal) (answers' plan' : List ℕ) : Type 0 where
  pub number : replayed_means r ≡ replay_refusal trace loaded (length answers) (length plan)
  pub run : replayed_means r ≡ 0 → Demanded (machine_of (limits_at trace) loaded) (trace_calls trace) (told_in r) answers' plan plan'
  pub refused : 0 < replayed_means r → Unchanged answers plan answers' plan'
