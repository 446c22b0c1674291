-- Demand 3 with a host's orders in the list: from a fresh planner and a fresh host.
use Rattle.std.specs.Prelude.{List, ◌≡◌, ℕ}
use Rattle.machine.specs.declared.Machine.{Machine}
use Rattle.line.specs.Answers.{Answer}
use Rattle.line.specs.Blocks.{fresh_line}
use Rattle.line.specs.Chains.{Chain}
use Rattle.line.specs.Demand.{Demand3}
use Rattle.host.specs.State.{fresh_host, host_of}
use Rattle.host.specs.Events.{Held, EventDone, calls_of_all, event_answers, host_after_all, planner_answers}
use Rattle.host.specs.declared.orders.Event.{Event}

-- Events one after the other, each on the numbers that the one before it left, with their answers.
abbrev pub EventsDone : Held → List Event → List Answer → Held → Type 0
EventsDone = Chain EventDone

-- Demand 3 of a list of events: what they were answered, the number told after them, what showing the plan in a lent list then answered and
-- left there, and the host's numbers.
pub record OrdersDemand3 (m : Machine) (events : List Event) (answers : List Answer) (told : ℕ) (lent : List ℕ) (said : Answer) (left host : List ℕ) : Type 0 where
  -- every event, refused ones included, is answered as the host and the line of blocks say
  pub answered : answers ≡ event_answers fresh_host (fresh_line m) events
  -- demand 3 of the calls that reach the planner, each order the add of its block
  pub demand : Demand3 m (calls_of_all fresh_host (fresh_line m) events) (planner_answers events answers) told lent said left
  -- the host's point and count are those of the orders accepted
  pub host_is : host_of host ≡ host_after_all fresh_host (fresh_line m) events
