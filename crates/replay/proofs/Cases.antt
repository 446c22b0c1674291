-- Worked examples of the definitions, which compute: the bytes were written apart from them.
use mathlib.Core.Path.{◌≡◌, refl}
use mathlib.Core.List.{List, ◌∷◌, ◌++◌, []}
use Prim.Native.Nat.{ℕ}
use lib.IntN.{pos, negsuc}
use lib.ListN.{replicate}
use Rattle.machine.specs.Lists.{limits_from}
use Rattle.fields.specs.Layouts.{joined, split}
use Rattle.fields.specs.Bytes.{number_of}
use Rattle.fields.specs.Fields.{field_of}
use Rattle.fields.specs.Records.{each_record}
use Rattle.fields.specs.Signed.{signed_of, bits_of}
use Rattle.machine.specs.Checks.{limits_refusal, limits_within}
use Rattle.machine.specs.Torque.{steps_refusal, falling}
use Rattle.line.specs.Answers.{refused}
use Rattle.line.specs.Blocks as line
use Rattle.tape.specs.Tape.{limits_at, zero_bits}
use Rattle.tape.specs.Answers.{limits_fault}
use Rattle.replay.specs.Trace.{block_of, call_of, trace_calls, trace_refusal}
use Rattle.replay.specs.Rows.{row_of, each_of, rows_of}
use Rattle.replay.specs.Replays.{replay_refusal}

-- machine M
machine : List ℕ
machine = 1 ∷ 134 ∷ 160 ∷ 0 ∷ 195 ∷ 80 ∷ 0 ∷ 97 ∷ 168 ∷ 30 ∷ 132 ∷ 129 ∷ 232 ∷ 72 ∷ 30 ∷ 132 ∷ 128 ∷ 0 ∷ 250 ∷ 0 ∷ 8 ∷ 250 ∷ 0 ∷ 0 ∷ []

-- an add of kind 256: moves 1000, -2, 0, feed 20,000, radius 3, mark 7; and a take whose other words are not 0
added : List ℕ
added = 0 ∷ 0 ∷ 1 ∷ 0 ∷ 0 ∷ 0 ∷ 3 ∷ 232 ∷ 255 ∷ 255 ∷ 255 ∷ 254 ∷ 0 ∷ 0 ∷ 0 ∷ 0 ∷ 0 ∷ 0 ∷ 78 ∷ 32 ∷ 0 ∷ 0 ∷ 0 ∷ 3 ∷ 0 ∷ 0 ∷ 0 ∷ 7 ∷ []

taken : List ℕ
taken = 0 ∷ 0 ∷ 0 ∷ 0 ∷ replicate 24 255

calls_read : trace_calls (machine ++ added ++ taken) ≡ line.add record { x = pos 1000; y = negsuc 1; z = pos 0; feed = 20000; radius = 3; mark = 7 } ∷ line.take ∷ []
unfolding machine added taken each_record call_of block_of field_of signed_of number_of joined
calls_read = refl

-- accepted with 30 and 65 numbers lent, 11 with others, 9 with a byte too many before 11, 9 with no limits, 1 with limits of 0
accepted : replay_refusal (machine ++ added ++ taken) (replicate 8 1) 30 65 ≡ 0
unfolding machine added taken replay_refusal trace_refusal steps_refusal falling limits_fault zero_bits limits_at limits_from limits_refusal limits_within split number_of joined
accepted = refl

bad_steps : replay_refusal (machine ++ added ++ taken) (replicate 7 1) 29 66 ≡ 14
unfolding machine added taken replay_refusal trace_refusal steps_refusal falling limits_fault zero_bits limits_at limits_from limits_refusal limits_within split number_of joined
bad_steps = refl

short_answers : replay_refusal (machine ++ added ++ taken) [] 29 65 ≡ 11
unfolding machine added taken replay_refusal trace_refusal steps_refusal falling limits_fault zero_bits limits_at limits_from limits_refusal limits_within split number_of joined
short_answers = refl

long_plan : replay_refusal (machine ++ added ++ taken) [] 30 66 ≡ 11
unfolding machine added taken replay_refusal trace_refusal steps_refusal falling limits_fault zero_bits limits_at limits_from limits_refusal limits_within split number_of joined
long_plan = refl

ragged : replay_refusal (machine ++ added ++ 0 ∷ []) [] 30 66 ≡ 9
unfolding machine added replay_refusal trace_refusal
ragged = refl

no_limits : replay_refusal [] [] 0 65 ≡ 9
unfolding replay_refusal trace_refusal
no_limits = refl

zero_limits : replay_refusal (replicate 24 0) (101 ∷ []) 1 1 ≡ 1
unfolding replay_refusal trace_refusal steps_refusal falling limits_fault zero_bits limits_at limits_from limits_refusal limits_within split number_of joined
zero_limits = refl

-- a refusal's row
full : rows_of (refused 7 ∷ []) ≡ 7 ∷ replicate 14 0
unfolding each_of row_of bits_of
full = refl
