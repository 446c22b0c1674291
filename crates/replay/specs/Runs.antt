-- What calls that are run promise: their own answers and what is written for each; and of a planner what it tells and shows at the end.
use Rattle.std.specs.Prelude.{◌≡◌, List, ℕ, ◌+◌, take, drop}
use Rattle.line.specs.Answers.{accepted}
use Rattle.line.specs.Chains.{Chain}
use Rattle.planner.specs.Calls.{Told, Showed}
use Rattle.replay.specs.Rows.{each_of}

-- a list of calls that were run on a state, one after the other, and all that was written for their answers
pub record Ran {S C A : Type 0} (Step : S → C → A → S → Type 0) (written : A → List ℕ) (calls : List C) (state state' : S) (all : List ℕ) : Type 0 where
  pub answers : List A
  pub called : Chain Step state calls answers state'
  pub all_is : all ≡ each_of written answers

-- the number told, and the plan shown in the first numbers of a lent list, as many as that and one; the others are as they were
pub record ToldPlan (memory : List ℕ) (told : ℕ) (plan plan' : List ℕ) : Type 0 where
  pub tells : Told memory told
  pub shows : Showed memory (take (told + 1) plan) accepted (take (told + 1) plan')
  pub rest : drop (told + 1) plan' ≡ drop (told + 1) plan
