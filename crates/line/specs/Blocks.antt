-- Document 01, "The line of blocks, from the calls alone". Nothing here names what a planner keeps.
use Rattle.std.specs.Prelude.{List, ◌∷◌, ◌++◌, [], ℕ, zero, suc, leb, length, cond}
use Rattle.profile.specs.Line.{number_at}
use Rattle.profile.specs.Passes.{plan_of}
use Rattle.display.specs.Display.{◌then◌}
use Rattle.machine.specs.Checks.{block_refusal}
use Rattle.machine.specs.Line.{spans_of}
use Rattle.machine.specs.declared.Block.{Block}
use Rattle.machine.specs.declared.Machine.{Machine}
use Rattle.line.specs.Answers.{Answer, gave, refused, answer_by, given_of}
use Rattle.line.specs.declared.Call as declared
use Rattle.line.specs.declared.Call.TheVariants as call

-- how many blocks are held at most
abbrev pub most_held : ℕ
most_held = 64

-- the line: machine, committed squared speed, blocks
pub record Line : Type 0 where
  pub machine : Machine
  pub committed : ℕ
  pub blocks : List Block

-- at a fresh planner
abbrev pub fresh_line : Machine → Line
fresh_line m = record { machine = m; committed = 0; blocks = [] }

-- an add with its block, or a take
pub data Call : Type 0 where
  add : Block → Call
  take : Call

abbrev pub call_means : declared.Call → Call
call_means (call.Add b) = add b
call_means call.Take = take

-- an add: its block is checked first (2 to 6), then the room (7)
abbrev pub add_refusal : (held : ℕ) → Block → ℕ
add_refusal held b = block_refusal b then cond (leb most_held held) 7 0

-- the plan of the line: its highest lawful profile, which `Demand: PlanHighest` says that it is; zeros where there is none
abbrev pub line_plan : Line → List ℕ
line_plan line = plan_of line.committed (spans_of line.machine line.blocks)

-- what line an add that is refused by a number, or by none, leaves
abbrev pub add_after : ℕ → Line → Block → Line
add_after zero line b = record { machine = line.machine; committed = line.committed; blocks = line.blocks ++ b ∷ [] }
add_after (suc n) line b = line

-- what a take of the blocks answers, with the plan's first two numbers as entry and exit
abbrev pub take_answer : Machine → List Block → (plan : List ℕ) → Answer
take_answer m [] plan = refused 8
take_answer m (b ∷ rest) plan = gave (given_of m b (number_at plan 0) (number_at plan 1))

-- and what line it leaves: the first block is gone, and the exit is the committed squared speed
abbrev pub take_after : Machine → (committed : ℕ) → List Block → (plan : List ℕ) → Line
take_after m committed [] plan = record { machine = m; committed = committed; blocks = [] }
take_after m committed (b ∷ rest) plan = record { machine = m; committed = number_at plan 1; blocks = rest }

-- what each call answers
unfoldable pub line_answer : Line → Call → Answer
line_answer line (add b) = answer_by (add_refusal (length line.blocks) b)
line_answer line take = take_answer line.machine line.blocks (line_plan line)

-- the line after a call
unfoldable pub line_after : Line → Call → Line
line_after line (add b) = add_after (add_refusal (length line.blocks) b) line b
line_after line take = take_after line.machine line.committed line.blocks (line_plan line)

-- after a list of calls: the answers and the line
unfoldable pub line_answers : Line → List Call → List Answer
line_answers line [] = []
line_answers line (c ∷ calls) = line_answer line c ∷ line_answers (line_after line c) calls

unfoldable pub line_after_all : Line → List Call → Line
line_after_all line [] = line
line_after_all line (c ∷ calls) = line_after_all (line_after line c) calls
