-- The text of a host's orders and takes: a line for each event, one for a cut one, the planner's closing lines, and the line of the host's point.
use Rattle.std.specs.Prelude.{ℕ, ◌-◌, List, ◌∷◌, ◌++◌, [], length}
use Rattle.std.specs.Float.{binary64}
use Rattle.std.specs.Float.Ieee.{to_bits}
use Rattle.fields.specs.Records.{cut_place}
use Rattle.machine.specs.Torque.{machine_of}
use Rattle.machine.specs.declared.Machine.{Machine}
use Rattle.line.specs.Answers.{Answer}
use Rattle.line.specs.Blocks.{Line, fresh_line, line_plan, line_after_all}
use Rattle.tape.specs.Tape.{limits_bytes, limits_at}
use Rattle.text.specs.Text.{line}
use Rattle.host.specs.State.{fresh_host, position_of}
use Rattle.host.specs.Events.{Held, EventDone, calls_of_all, event_answers, host_after_all}
use Rattle.host.specs.declared.orders.Point.{Point}
use Rattle.host.specs.declared.orders.Event.{Event}
use Rattle.replay_text.specs.Chunks.{Recorded}
use Rattle.replay_text.specs.Texts.{answer_text, answers_text, closing_text, cut_text, headed_text, most_calls}
use Rattle.order_text.specs.Orders.{event_bytes, event_of, orders_events}

-- the records of orders: how many of a chunk are run at most, and what they are
abbrev pub most_events : ℕ
most_events = most_calls

abbrev pub recorded_events : Recorded Held Event Answer
recorded_events = record { size = event_bytes; most = most_events; says = event_of; Step = EventDone; line = answer_text }

-- the patterns of a point's doubles, X, Y and Z
abbrev pub patterns_of : Point → List ℕ
patterns_of p = to_bits binary64 p.x ∷ to_bits binary64 p.y ∷ to_bits binary64 p.z ∷ []

-- `point`, and the line `point` with the patterns
abbrev pub point_word : List ℕ
point_word = 112 ∷ 111 ∷ 105 ∷ 110 ∷ 116 ∷ []

abbrev pub point_text : Point → List ℕ
point_text p = line point_word (patterns_of p)

-- the three closing lines: the number of blocks held, the plan, and the host's point
abbrev pub closing_orders : (told : ℕ) (plan : List ℕ) → Point → List ℕ
closing_orders told plan p = closing_text told plan ++ point_text p

-- the line of blocks that events make, from a fresh planner of machine m and a fresh host
abbrev pub line_behind : Machine → List Event → Line
line_behind m events = line_after_all (fresh_line m) (calls_of_all fresh_host (fresh_line m) events)

-- the text of events from there, behind which an event is cut at a place, or none
abbrev pub events_text : Machine → List Event → (place : ℕ) → List ℕ
events_text m events place =
    answers_text (event_answers fresh_host (fresh_line m) events)
    ++ cut_text place
    ++ closing_orders (length (line_behind m events).blocks) (line_plan (line_behind m events)) (position_of (host_after_all fresh_host (fresh_line m) events))

-- the text of any bytes as orders and as loaded torque steps: of their whole events, or the refusal's line
unfoldable pub orders_text : (s loaded : List ℕ) → List ℕ
orders_text s loaded = headed_text s loaded (events_text (machine_of (limits_at s) loaded) (orders_events s) (cut_place event_bytes 0 (length s - limits_bytes)))
