-- The text of records that are run: the one line of limits or steps that are refused, or a line for each answer, one for a cut record, and the
-- closing lines; and the text of a trace.
use Rattle.std.specs.Prelude.{ℕ, ◌-◌, List, ◌++◌, [], length}
use Rattle.fields.specs.Records.{cut_place}
use Rattle.machine.specs.Torque.{machine_of, steps_refusal}
use Rattle.machine.specs.declared.Machine.{Machine}
use Rattle.line.specs.Answers.{Answer, accepted, gave, refused}
use Rattle.line.specs.Blocks.{Call, fresh_line, line_answers, line_after_all, line_plan}
use Rattle.planner.specs.Calls.{Called}
use Rattle.text.specs.Text as text
use Rattle.given_text.specs.Given.{given_text}
use Rattle.tape.specs.Tape.{limits_bytes, limits_at}
use Rattle.display.specs.Display.{by_number, ◌then◌}
use Rattle.tape.specs.Answers.{limits_read_refusal}
use Rattle.replay.specs.Rows.{each_of}
use Rattle.replay.specs.Trace.{call_bytes, call_of, trace_calls}
use Rattle.replay_text.specs.Chunks.{Recorded}

-- what is refused of any bytes as limits with records behind them and as loaded torque steps: no whole limits (9), limits that do not pass (1),
-- then the steps (14)
abbrev pub text_refusal : (s loaded : List ℕ) → ℕ
text_refusal s loaded = limits_read_refusal s then steps_refusal loaded

-- a text where neither is refused, else the refusal's line
abbrev pub headed_text : (s loaded body : List ℕ) → List ℕ
headed_text s loaded body = by_number (text_refusal s loaded) body (text.refused_at (text_refusal s loaded) 0)

-- the line of a cut record with its place; no line where the place is 0
abbrev pub cut_text : (place : ℕ) → List ℕ
cut_text place = by_number place [] (text.refused_at 9 place)

-- the line of an answer
unfoldable pub answer_text : Answer → List ℕ
answer_text accepted = text.added
answer_text (gave g) = given_text g
answer_text (refused n) = text.refused n

-- the lines of a list of answers, one behind the other
abbrev pub answers_text : List Answer → List ℕ
answers_text = each_of answer_text

-- the two closing lines: the number of blocks held, and the plan
abbrev pub closing_text : (told : ℕ) (plan : List ℕ) → List ℕ
closing_text told plan = text.held told ++ text.plan plan

-- the records of a trace: how many of a chunk are run at most, and what they are
abbrev pub most_calls : ℕ
most_calls = 300

abbrev pub recorded_calls : Recorded (List ℕ) Call Answer
recorded_calls = record { size = call_bytes; most = most_calls; says = call_of; Step = Called; line = answer_text }

-- the text of calls from a fresh planner of machine m, behind which a call is cut at a place, or none
abbrev pub calls_text : Machine → List Call → (place : ℕ) → List ℕ
calls_text m calls place =
    answers_text (line_answers (fresh_line m) calls)
    ++ cut_text place
    ++ closing_text (length (line_after_all (fresh_line m) calls).blocks) (line_plan (line_after_all (fresh_line m) calls))

-- the text of the trace: of its whole calls, or the refusal's line
unfoldable pub replay_text : (s loaded : List ℕ) → List ℕ
replay_text s loaded = headed_text s loaded (calls_text (machine_of (limits_at s) loaded) (trace_calls s) (cut_place call_bytes 0 (length s - limits_bytes)))
