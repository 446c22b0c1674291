-- What the functions for C on whole tapes and traces return and leave in the lists that they are lent.
use Rattle.std.specs.Prelude.{List, ◌∷◌, [], ◌≡◌, ℕ, ◌<◌, length}
use Rattle.profile.specs.Line.{Highest}
use Rattle.machine.specs.Torque.{machine_of}
use Rattle.line.specs.Blocks.{fresh_line, line_after_all}
use Rattle.tape.specs.Tape.{limits_at}
use Rattle.display.specs.Display.{by_number}
use Rattle.tapeplan.specs.Planned.{tape_spans, tape_plan, plan_fault, sized_fault}
use Rattle.tape_rows.specs.Rows.{rows_size, tape_rows}
use Rattle.replay.specs.Trace.{trace_calls}
use Rattle.replay.specs.Replays.{replay_refusal, Demanded, Unchanged}

-- numbers of a list for a count: of blocks, or the place of a record or a line, counted from 1
abbrev pub count_size : ℕ
count_size = 1

-- A whole tape planned with loaded torque steps: the number on the display, the place of the record at fault, and the list, which is the plan
-- from rest to rest that no lawful profile is above anywhere, or as it was.
pub record PlanLent (tape loaded : List ℕ) (number : ℕ) (list list' place' : List ℕ) : Type 0 where
  pub number_is : number ≡ (plan_fault tape loaded (length list)).number
  pub place_is : place' ≡ (plan_fault tape loaded (length list)).place ∷ []
  pub list_is : list' ≡ by_number (plan_fault tape loaded (length list)).number (tape_plan tape loaded) list
  pub highest : number ≡ 0 → Highest 0 (tape_spans tape loaded) list'

-- A list of some size that is filled with what is made of a tape planned with loaded torque steps: the number on the display, the place of the
-- record at fault, and the list, or as it was.
pub record FilledLent (tape loaded : List ℕ) (size : ℕ) (filling : List ℕ) (number : ℕ) (list list' place' : List ℕ) : Type 0 where
  pub number_is : number ≡ (sized_fault tape loaded size (length list)).number
  pub place_is : place' ≡ (sized_fault tape loaded size (length list)).place ∷ []
  pub list_is : list' ≡ by_number (sized_fault tape loaded size (length list)).number filling list

-- The rows of a tape's blocks.
abbrev pub ListLent : (tape loaded : List ℕ) (number : ℕ) (list list' place' : List ℕ) → Type 0
ListLent tape loaded number list list' place' = FilledLent tape loaded (rows_size tape) (tape_rows tape loaded) number list list' place'

-- the number of blocks held after a trace
abbrev pub told_after : (trace loaded : List ℕ) → ℕ
told_after trace loaded = length (line_after_all (fresh_line (machine_of (limits_at trace) loaded)) (trace_calls trace)).blocks

-- A trace run with loaded torque steps, or refused: the number on the display; demand 3 where it was run, with the number told in its list; all
-- three lists as they were where it was refused.
pub record ReplayLent (trace loaded : List ℕ) (number : ℕ) (answers answers' plan plan' told told' : List ℕ) : Type 0 where
  pub number_is : number ≡ replay_refusal trace loaded (length answers) (length plan)
  pub told_is : told' ≡ by_number number (told_after trace loaded ∷ []) told
  pub run : number ≡ 0 → Demanded (machine_of (limits_at trace) loaded) (trace_calls trace) (told_after trace loaded) answers' plan plan'
  pub refused : 0 < number → Unchanged answers plan answers' plan'
