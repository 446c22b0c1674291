-- Demand 3, drawn from the calls alone: nothing here names what a planner keeps.
use Rattle.std.specs.Prelude.{List, ◌≡◌, ℕ, ◌+◌, ◌≤◌, length, take, get_or}
use Rattle.profile.specs.Line.{number_at, Highest}
use Rattle.machine.specs.Line.{spans_of}
use Rattle.machine.specs.Meaning.{RampIs}
use Rattle.machine.specs.Numbers.{block_cap, numbers_of}
use Rattle.machine.specs.declared.Machine.{Machine}
use Rattle.line.specs.Answers.{Answer, accepted, gave, refused}
use Rattle.line.specs.Blocks.{Line, Call, fresh_line, line_plan, line_answers, line_after_all}
use Rattle.line.specs.declared.Given.{Given}

-- a lawful profile of the line exists, its plan is one, and no lawful profile is above the plan anywhere
abbrev pub PlanHighest : Line → Type 0
PlanHighest line = Highest line.committed (spans_of line.machine line.blocks) (line_plan line)

-- a block given out of a line: entry and exit are the first two numbers of its highest lawful profile; no squared speed of the block is
-- above its cap; the ramp is the one between these two, up and down to the nearest; and it is as long as the block
pub record GivenFrom (line : Line) (g : Given) : Type 0 where
  pub highest : PlanHighest line
  pub entry : g.entry ≡ number_at (line_plan line) 0
  pub exit : g.exit ≡ number_at (line_plan line) 1
  pub capped : (g.entry ≤ block_cap line.machine.limits g.block) × (g.exit ≤ block_cap line.machine.limits g.block) × (g.ramp.peak ≤ block_cap line.machine.limits g.block)
  pub ramp : RampIs (numbers_of line.machine g.block) g.entry g.exit g.ramp
  pub fills : g.ramp.up + g.ramp.cruise + g.ramp.down ≡ g.length

-- the plan of a line shown: a lent list that is one longer than its blocks is filled with its highest lawful profile; any other
-- length gives 11, and the list stays as it was
pub record ShownOf (line : Line) (lent : List ℕ) (said : Answer) (left : List ℕ) : Type 0 where
  pub highest : PlanHighest line
  pub fits : length lent ≡ length line.blocks + 1 → (said ≡ accepted) × (left ≡ line_plan line)
  pub other : (length lent ≡ length line.blocks + 1 → ⊥) → (said ≡ refused 11) × (left ≡ lent)

-- answer k of a list, k counted from 0; accepted past its end, which is no block given out
abbrev pub answer_at : List Answer → ℕ → Answer
answer_at answers k = get_or answers k accepted

-- the line that the first k calls from a fresh planner make: as it stood before call k
abbrev pub line_before : Machine → List Call → ℕ → Line
line_before m calls k = line_after_all (fresh_line m) (take k calls)

-- Demand 3 of a list of calls from a fresh planner of machine m: what they were answered, the number told after them, and what
-- showing the plan in a lent list then answered and left there
pub record Demand3 (m : Machine) (calls : List Call) (answers : List Answer) (told : ℕ) (lent : List ℕ) (said : Answer) (left : List ℕ) : Type 0 where
  -- every call, refused ones included, is answered as the line says
  pub answered : answers ≡ line_answers (fresh_line m) calls
  -- every block given out has the first two speeds of the highest lawful profile as it stood before its take
  pub given : (k : ℕ) (g : Given) → answer_at answers k ≡ gave g → GivenFrom (line_before m calls k) g
  -- the number told is the line's
  pub number : told ≡ length (line_after_all (fresh_line m) calls).blocks
  -- a lawful profile exists, the plan shown is lawful, and no lawful profile is above it anywhere
  pub plan : ShownOf (line_after_all (fresh_line m) calls) lent said left
