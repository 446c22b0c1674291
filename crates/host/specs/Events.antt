-- Orders, adds and takes as they come to a planner with a host: which calls of the planner they are, and what they are answered. From the
-- events alone: the host and the line of blocks that they make.
use Rattle.std.specs.Prelude.{List, ◌∷◌, ◌++◌, [], ◌≡◌, ℕ, length}
use Rattle.display.specs.Display.{by_number, ◌then◌}
use Rattle.line.specs.Answers.{Answer, answer_by}
use Rattle.line.specs.Blocks.{Line, add, add_refusal, call_means, line_answer, line_after_all}
use Rattle.line.specs.Blocks as line
use Rattle.planner.specs.Calls.{Called}
use Rattle.host.specs.Fields.{readings_of, order_fault}
use Rattle.host.specs.State.{Host, host_behind, order_block}
use Rattle.host.specs.Calls.{Ordered}
use Rattle.host.specs.declared.orders.Event.{Event}
use Rattle.host.specs.declared.orders.Event.TheVariants.{Order, Call}

-- what is refused of an event before it reaches the planner: 15 or 16 of an order's fields, else 0
abbrev pub event_fault : Event → ℕ
event_fault (Order o offset) = order_fault o offset
event_fault (Call c) = 0

-- the call of the planner that an event is, where its fields pass: an order is the add of its block
abbrev pub call_of : Host → Event → line.Call
call_of h (Order o offset) = add (order_block h o offset)
call_of h (Call c) = call_means c

-- the calls that reach the planner: that one, or none where a field is refused
abbrev pub calls_of : Host → Event → List line.Call
calls_of h e = by_number (event_fault e) (call_of h e ∷ []) []

-- what an event is answered: the field's refusal, else what the line answers
abbrev pub event_answer : Host → Line → Event → Answer
event_answer h line e = by_number (event_fault e) (line_answer line (call_of h e)) (answer_by (event_fault e))

-- the line and the host behind it; an order that is accepted moves the host
abbrev pub event_line : Host → Line → Event → Line
event_line h line e = line_after_all line (calls_of h e)

abbrev pub event_host : Host → Line → Event → Host
event_host h line (Order o offset) =
    by_number (order_fault o offset then add_refusal (length line.blocks) (order_block h o offset)) (host_behind h (readings_of o offset)) h
event_host h line (Call c) = h

-- of a list of events: the calls that reach the planner, the answers of all, and the host at the end
unfoldable pub calls_of_all : Host → Line → List Event → List line.Call
calls_of_all h line [] = []
calls_of_all h line (e ∷ events) = calls_of h e ++ calls_of_all (event_host h line e) (event_line h line e) events

unfoldable pub event_answers : Host → Line → List Event → List Answer
event_answers h line [] = []
event_answers h line (e ∷ events) = event_answer h line e ∷ event_answers (event_host h line e) (event_line h line e) events

unfoldable pub host_after_all : Host → Line → List Event → Host
host_after_all h line [] = h
host_after_all h line (e ∷ events) = host_after_all (event_host h line e) (event_line h line e) events

-- those of the answers that the planner gave: all but those of refused fields
unfoldable pub planner_answers : List Event → List Answer → List Answer
planner_answers [] answers = []
planner_answers (e ∷ events) [] = []
planner_answers (e ∷ events) (a ∷ answers) = by_number (event_fault e) (a ∷ []) [] ++ planner_answers events answers

-- the numbers of a planner and of a host
pub record Held : Type 0 where
  pub memory : List ℕ
  pub host : List ℕ

-- an event that was carried out
abbrev pub EventDone : Held → Event → Answer → Held → Type 0
EventDone s (Order o offset) said s' = Ordered s.memory s.host o offset said s'.memory s'.host
EventDone s (Call c) said s' = Called s.memory (call_means c) said s'.memory × (s'.host ≡ s.host)
