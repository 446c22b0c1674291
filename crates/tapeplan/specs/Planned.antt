-- The whole-tape planner of document 01: its refusals and the list that it leaves.
use Rattle.std.specs.Prelude.{◌≡◌, List, ℕ, ◌+◌, ◌*◌, ◌<◌, ◌≤◌, eqb, length, cond, ⊤, Result, Ok, Err}
use Rattle.profile.specs.Line.{Highest, number_at}
use Rattle.profile.specs.declared.Span.{Span}
use Rattle.profile.specs.Passes.{plan_of}
use Rattle.display.specs.Display.{Fault, Outcome, fault_of, by_number, or_refused, ◌then◌, ◌at◌, ◌else◌}
use Rattle.tape.specs.Answers.{fault_from, head_refusal, most_blocks}
use Rattle.machine.specs.Line.{spans_of}
use Rattle.machine.specs.Torque.{machine_of, steps_refusal}
use Rattle.machine.specs.declared.Machine.{Machine}
use Rattle.tape.specs.Tape.{records_in, tape_limits, tape_blocks}
use Rattle.tapeplan.specs.Sheet.{Measures, measured_at, measured_of, over, sheet_size}
use Rattle.display.specs.declared.RefusedAt.{RefusedAt}
use Rattle.tapeplan.specs.declared.Measured.{Measured}

-- the machine that a tape is planned for with loaded torque steps, and the tape's blocks as a profile sees them
abbrev pub tape_machine : (s loaded : List ℕ) → Machine
tape_machine s loaded = machine_of (tape_limits s) loaded

abbrev pub tape_spans : (s loaded : List ℕ) → List Span
tape_spans s loaded = spans_of (tape_machine s loaded) (tape_blocks s)

-- the plan of a whole tape, from rest to rest
abbrev pub tape_plan : (s loaded : List ℕ) → List ℕ
tape_plan s loaded = plan_of 0 (tape_spans s loaded)

-- the whole tape's checks: 10, 9 and 1 of the tape, and 14 of the loaded steps, which come before its records,
abbrev pub start_refusal : (s loaded : List ℕ) → ℕ
start_refusal s loaded = head_refusal s then steps_refusal loaded

-- and the machine where these pass,
unfoldable pub start_answer : (s loaded : List ℕ) → Outcome ℕ Machine
start_answer s loaded = or_refused (start_refusal s loaded) (tape_machine s loaded)

-- and then the records in turn
unfoldable pub whole_fault : (s loaded : List ℕ) → Fault
whole_fault s loaded = start_refusal s loaded at 0 else fault_from 1 (tape_blocks s)

-- its number and its place
abbrev pub whole_refusal : (s loaded : List ℕ) → ℕ
whole_refusal s loaded = (whole_fault s loaded).number

abbrev pub whole_place : (s loaded : List ℕ) → ℕ
whole_place s loaded = (whole_fault s loaded).place

-- these checks, then 11 where a lent list has not exactly this size
abbrev pub sized_fault : (s loaded : List ℕ) (size lent : ℕ) → Fault
sized_fault s loaded size lent = whole_fault s loaded else (cond (eqb lent size) 0 11 at 0)

-- that of the plan is exactly one longer than the blocks
unfoldable pub plan_fault : (s loaded : List ℕ) (lent : ℕ) → Fault
plan_fault s loaded lent = sized_fault s loaded (records_in s + 1) lent

-- number and place of each answer
abbrev pub planned_means : Result ⊤ RefusedAt → Fault
planned_means (Ok _) = 0 at 0
planned_means (Err r) = fault_of r

-- a list of some size that is filled with what is made of a tape: the answer's number and place, and the list, or what it held
pub record FilledTape (s loaded : List ℕ) (size : ℕ) (filling before after : List ℕ) (r : Result ⊤ RefusedAt) : Type 0 where
  pub fault : planned_means r ≡ sized_fault s loaded size (length before)
  pub list : after ≡ by_number (sized_fault s loaded size (length before)).number filling before

-- the answer's number and place, and the list: the plan from rest to rest, which no lawful profile is above anywhere, or
-- what it held
pub record PlannedTape (s loaded before after : List ℕ) (r : Result ⊤ RefusedAt) : Type 0 where
  pub fault : planned_means r ≡ plan_fault s loaded (length before)
  pub list : after ≡ by_number (plan_fault s loaded (length before)).number (tape_plan s loaded) before
  pub highest : (plan_fault s loaded (length before)).number ≡ 0 → Highest 0 (tape_spans s loaded) after

-- the same, and a work sheet before and after: it has what is measured of the blocks of a tape that passes, as far as it has rows
pub record SurveyedTape (s loaded : List ℕ) (work work' : List Measured) (before after : List ℕ) (r : Result ⊤ RefusedAt) : Type 0 where
  pub planned : PlannedTape s loaded before after r
  pub measured : whole_refusal s loaded ≡ 0 → Measures (tape_machine s loaded) s work work' (records_in s)

-- junctions of the longest tape
abbrev pub most_junctions : ℕ
most_junctions = most_blocks + 1

-- The same with a list that has room for the plan of any tape, so that 11 is never given: the plan is at its beginning; if the tape is refused, all of
-- the list is as it was. The work sheet, of full size, has a row for each block of a tape that is planned, and its other rows are as they were. If the
-- tape is refused, it has anything: it is work memory and no lent list.
pub record WholeTape (s loaded : List ℕ) (work work' : List Measured) (before after : List ℕ) (r : Result ⊤ RefusedAt) : Type 0 where
  pub fault : planned_means r ≡ whole_fault s loaded
  pub sized : length after ≡ length before
  pub list : after ≡ by_number (whole_refusal s loaded) (over (tape_plan s loaded) before) before
  pub room : length work' ≡ sheet_size
  pub rows : whole_refusal s loaded ≡ 0 → (k : ℕ) → k < records_in s → measured_at work' k ≡ measured_of (tape_machine s loaded) s k
  pub later : whole_refusal s loaded ≡ 0 → (i : ℕ) → records_in s ≤ i → measured_at work' i ≡ measured_at work i

-- Demand 3 of an accepted tape with accepted torque steps, from rest to rest, in a list one longer than its blocks: the tape is planned, the list
-- is the plan of its blocks, so a lawful profile exists, the list is one, and no lawful profile is above it anywhere
pub record TapeDemand3 (s loaded after : List ℕ) (r : Result ⊤ RefusedAt) : Type 0 where
  pub answered : r ≡ Ok tt
  pub plan : after ≡ tape_plan s loaded
  pub highest : Highest 0 (tape_spans s loaded) after
