-- Worked examples of the text, which computes: the bytes were written apart from it.
use mathlib.Core.Path.{◌≡◌, refl}
use mathlib.Core.List.{List, ◌∷◌, ◌++◌, []}
use Prim.Native.Nat.{ℕ}
use lib.IntN.{pos}
use lib.ListN.{replicate}
use Rattle.machine.specs.Lists.{limits_from}
use Rattle.fields.specs.Layouts.{joined, split}
use Rattle.fields.specs.Bytes.{number_of}
use Rattle.fields.specs.Fields.{field_of}
use Rattle.fields.specs.Records.{each_record}
use Rattle.profile.specs.Passes.{start_limit, forward, plan_of}
use Rattle.machine.specs.Checks.{limits_refusal, limits_within}
use Rattle.machine.specs.Line.{spans_of}
use Rattle.line.specs.Answers.{accepted, gave, refused}
use Rattle.line.specs.Blocks.{line_answer, line_after, line_answers, line_after_all}
use Rattle.line.specs.declared.Given.{Given}
use Rattle.machine.specs.Torque.{steps_refusal}
use Rattle.tape.specs.Tape.{limits_at, zero_bits}
use Rattle.tape.specs.Answers.{limits_read_refusal, limits_fault}
use Rattle.replay.specs.Rows.{each_of}
use Rattle.replay.specs.Trace.{call_of}
use Rattle.text.specs.Text.{digits_of, decimal, spaced, line, row, refused_words}
use Rattle.given_text.specs.Given.{given_text}
use Rattle.replay_text.specs.Texts.{answer_text, answers_text, closing_text, replay_text}

-- a block given out with nine numbers, each another
given : Given
given =
    record {
      block = record { x = pos 12; y = pos 0; z = pos 0; feed = 77; radius = 88; mark = 5 };
      length = 12;
      accel = 100;
      entry = 0;
      exit = 9;
      ramp = record { peak = 400; up = 10; cruise = 1; down = 2 };
    }

-- `added`, `refused 7`, `5 12 100 0 400 9 10 1 2`
lines : answers_text (accepted ∷ refused 7 ∷ gave given ∷ []) ≡ 97 ∷ 100 ∷ 100 ∷ 101 ∷ 100 ∷ 10 ∷ 114 ∷ 101 ∷ 102 ∷ 117 ∷ 115 ∷ 101 ∷ 100 ∷ 32 ∷ 55 ∷ 10 ∷ 53 ∷ 32 ∷ 49 ∷ 50 ∷ 32 ∷ 49 ∷ 48 ∷ 48 ∷ 32 ∷ 48 ∷ 32 ∷ 52 ∷ 48 ∷ 48 ∷ 32 ∷ 57 ∷ 32 ∷ 49 ∷ 48 ∷ 32 ∷ 49 ∷ 32 ∷ 50 ∷ 10 ∷ []
unfolding given each_of answer_text given_text row line spaced decimal digits_of
lines = refl

-- `held 1`, `plan 40 0`
closing : closing_text 1 (40 ∷ 0 ∷ []) ≡ 104 ∷ 101 ∷ 108 ∷ 100 ∷ 32 ∷ 49 ∷ 10 ∷ 112 ∷ 108 ∷ 97 ∷ 110 ∷ 32 ∷ 52 ∷ 48 ∷ 32 ∷ 48 ∷ 10 ∷ []
unfolding line spaced decimal digits_of
closing = refl

-- machine M
machine : List ℕ
machine = 1 ∷ 134 ∷ 160 ∷ 0 ∷ 195 ∷ 80 ∷ 0 ∷ 97 ∷ 168 ∷ 30 ∷ 132 ∷ 129 ∷ 232 ∷ 72 ∷ 30 ∷ 132 ∷ 128 ∷ 0 ∷ 250 ∷ 0 ∷ 8 ∷ 250 ∷ 0 ∷ 0 ∷ []

-- no bytes: `refused 9 at 0`; limits of 0 with bad steps: `refused 1 at 0`; machine M with bad steps: `refused 14 at 0`
no_limits : replay_text [] [] ≡ 114 ∷ 101 ∷ 102 ∷ 117 ∷ 115 ∷ 101 ∷ 100 ∷ 32 ∷ 57 ∷ 32 ∷ 97 ∷ 116 ∷ 32 ∷ 48 ∷ 10 ∷ []
unfolding replay_text limits_read_refusal line spaced decimal digits_of refused_words
no_limits = refl

zero_limits : replay_text (replicate 24 0) (101 ∷ []) ≡ 114 ∷ 101 ∷ 102 ∷ 117 ∷ 115 ∷ 101 ∷ 100 ∷ 32 ∷ 49 ∷ 32 ∷ 97 ∷ 116 ∷ 32 ∷ 48 ∷ 10 ∷ []
unfolding replay_text limits_read_refusal limits_fault zero_bits limits_at limits_from limits_refusal limits_within split number_of joined line spaced decimal digits_of refused_words
zero_limits = refl

bad_steps : replay_text machine (101 ∷ []) ≡ 114 ∷ 101 ∷ 102 ∷ 117 ∷ 115 ∷ 101 ∷ 100 ∷ 32 ∷ 49 ∷ 52 ∷ 32 ∷ 97 ∷ 116 ∷ 32 ∷ 48 ∷ 10 ∷ []
unfolding machine replay_text limits_read_refusal steps_refusal limits_fault zero_bits limits_at limits_from limits_refusal limits_within split number_of joined line spaced decimal digits_of refused_words
bad_steps = refl

-- a take, and one byte more: `refused 8`, `refused 9 at 2`, `held 0`, `plan 0`
cut : replay_text (machine ++ replicate 29 0) []
    ≡ 114 ∷ 101 ∷ 102 ∷ 117 ∷ 115 ∷ 101 ∷ 100 ∷ 32 ∷ 56 ∷ 10 ∷ 114 ∷ 101 ∷ 102 ∷ 117 ∷ 115 ∷ 101 ∷ 100 ∷ 32 ∷ 57 ∷ 32 ∷ 97 ∷ 116 ∷ 32 ∷ 50 ∷ 10 ∷ 104 ∷ 101 ∷ 108 ∷ 100 ∷ 32 ∷ 48 ∷ 10 ∷ 112 ∷ 108 ∷ 97 ∷ 110 ∷ 32 ∷ 48 ∷ 10 ∷ []
unfolding machine replay_text limits_read_refusal steps_refusal limits_fault zero_bits limits_at limits_from limits_refusal limits_within split number_of joined each_record call_of field_of each_of answer_text line_answers line_answer line_after_all line_after spans_of plan_of start_limit forward line spaced decimal digits_of refused_words
cut = refl
