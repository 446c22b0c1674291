-- A trace: the limits as on tape, then the calls, each seven 32-bit words, most significant byte first.
use Rattle.std.specs.Prelude.{ℕ, zero, suc, ◌-◌, ◌*◌, ◌/◌, ◌%◌, not, cond, ◌||◌, List, ltb, eqb, length, drop}
use Rattle.fields.specs.Fields.{field_of}
use Rattle.fields.specs.Records.{record_in, each_record, whole_records}
use Rattle.fields.specs.Signed.{signed_of}
use Rattle.display.specs.Display.{Outcome, given, refused, by_number, ◌then◌}
use Rattle.tape.specs.Answers.{limits_fault}
use Rattle.machine.specs.Labels.{plain_block}
use Rattle.machine.specs.declared.Block.{Block}
use Rattle.machine.specs.declared.Limits.{Limits}
use Rattle.line.specs.Blocks as line
use Rattle.tape.specs.Tape.{limits_bytes, limits_at}

-- bits of a word; words and bytes of a call
abbrev pub word_bits : ℕ
word_bits = 32

abbrev pub call_words : ℕ
call_words = 7

abbrev pub call_bytes : ℕ
call_bytes = word_bits * call_words / 8

-- word i of a call's bytes
abbrev pub word_of : List ℕ → ℕ → ℕ
word_of bytes i = field_of bytes (word_bits * i) word_bits

-- the block of a call: moves X, Y, Z by two's complement, feed, radius, mark
unfoldable pub block_of : List ℕ → Block
block_of bytes =
    plain_block
    (signed_of word_bits (word_of bytes 1))
    (signed_of word_bits (word_of bytes 2))
    (signed_of word_bits (word_of bytes 3))
    (word_of bytes 4)
    (word_of bytes 5)
    (word_of bytes 6)

-- a call by its kind: 0 is a take, any other number an add; a take's block plays no part
abbrev pub call_by : (kind : ℕ) → Block → line.Call
call_by zero b = line.take
call_by (suc n) b = line.add b

unfoldable pub call_of : List ℕ → line.Call
call_of bytes = call_by (word_of bytes 0) (block_of bytes)

-- call k of bytes with no limits before them, k counted from 0
abbrev pub call_in : List ℕ → ℕ → line.Call
call_in bytes k = call_of (record_in call_bytes bytes k)

-- n calls of such bytes, from call k on, and all whole ones
abbrev pub calls_from : List ℕ → (k n : ℕ) → List line.Call
calls_from = each_record call_bytes call_of

abbrev pub whole_calls : List ℕ → List line.Call
whole_calls = whole_records call_bytes call_of

-- how many calls a trace has behind its limits, and which
abbrev pub calls_in : List ℕ → ℕ
calls_in trace = (length trace - limits_bytes) / call_bytes

abbrev pub trace_calls : List ℕ → List line.Call
trace_calls trace = whole_calls (drop limits_bytes trace)

-- 9 where a trace has no whole limits, or ends inside a call, else 0
abbrev pub ragged_trace : List ℕ → ℕ
ragged_trace trace = cond (ltb (length trace) limits_bytes || not (eqb ((length trace - limits_bytes) % call_bytes) 0)) 9 0

-- what is wrong in the trace itself: 9, then 1
unfoldable pub trace_refusal : List ℕ → ℕ
trace_refusal trace = ragged_trace trace then limits_fault trace

-- what reading the head of a trace answers: the limits, or the number
abbrev pub read_trace : List ℕ → Outcome ℕ Limits
read_trace trace = by_number (trace_refusal trace) (given (limits_at trace)) (refused (trace_refusal trace))
