-- What storing the text of calls promises, whatever the state: the calls' own answers, and every byte of the text; and of a planner's memory what it
-- tells and shows. The planner's promises (`Called`, `Told`, `Showed`) say the same by the line of blocks that the memory holds.
use Rattle.std.specs.Prelude.{◌≡◌, List, ℕ, ◌+◌, ◌≤◌, length}
use Rattle.line.specs.Answers.{accepted}
use Rattle.planner.specs.Calls.{Told, Showed}
use Rattle.replay.specs.Runs.{Ran}
use Rattle.text.specs.Store.{Stored}
use Rattle.replay_text.specs.Texts.{closing_text}
use Rattle.replay_text.specs.Chunks.{Recorded, line_bytes, text_bytes}

-- calls in turn, and the lines of their own answers from the first byte on; `end` is how many bytes they take
pub record RanText {S C A : Type 0} (r : Recorded S C A) (calls : List C) (state state' : S) (text : List ℕ) (end : ℕ) (text' : List ℕ) : Type 0 where
  pub few : end ≤ text_bytes
  pub lines : List ℕ
  pub ran : Ran r.Step r.line calls state state' lines
  pub stored : Stored text 0 lines end text'

-- the closing lines of a number told and a plan, from the first byte on; behind them there is room for one line more
pub record Ended (told : ℕ) (plan text : List ℕ) (end : ℕ) (text' : List ℕ) : Type 0 where
  pub few : end + line_bytes ≤ text_bytes
  pub stored : Stored text 0 (closing_text told plan) end text'

-- the closing lines of a planner: those of the number told, and of the plan shown in a lent list that it fills
pub record Closed (memory text : List ℕ) (end : ℕ) (text' : List ℕ) : Type 0 where
  pub told : ℕ
  pub tells : Told memory told
  pub lent : List ℕ
  pub fits : length lent ≡ told + 1
  pub plan : List ℕ
  pub shows : Showed memory lent accepted plan
  pub ended : Ended told plan text end text'
