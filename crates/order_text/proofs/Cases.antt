-- Worked examples of events and of their text, which compute: the bytes were written apart from them.
use mathlib.Core.Path.{◌≡◌, refl}
use mathlib.Core.List.{List, ◌∷◌, ◌++◌, []}
use mathlib.Core.Bool.{true, false}
use Prim.Native.Nat.{ℕ}
use lib.Ieee.{fin, of_bits, of_int, to_bits}
use lib.IntN.{pos, negsuc}
use lib.ListN.{replicate}
use Rattle.fields.specs.Layouts.{joined, split}
use Rattle.fields.specs.Bytes.{number_of}
use Rattle.fields.specs.Fields.{field_of}
use Rattle.fields.specs.Records.{each_record}
use Rattle.profile.specs.Passes.{start_limit, forward, plan_of}
use Rattle.machine.specs.Checks.{limits_refusal, limits_within}
use Rattle.machine.specs.Line.{spans_of}
use Rattle.machine.specs.Lists.{limits_from}
use Rattle.machine.specs.Torque.{steps_refusal}
use Rattle.line.specs.Blocks.{line_answer, line_after, line_after_all}
use Rattle.tape.specs.Tape.{limits_at, zero_bits}
use Rattle.tape.specs.Answers.{limits_read_refusal, limits_fault}
use Rattle.text.specs.Text.{digits_of, decimal, spaced, line, refused_words}
use Rattle.replay.specs.Rows.{each_of}
use Rattle.host.specs.State.{position_of}
use Rattle.host.specs.Events.{calls_of_all, event_answers, host_after_all}
use Rattle.host.specs.declared.orders.Order.TheVariants.{CurveChord}
use Rattle.host.specs.declared.orders.Event.TheVariants.{Order}
use Rattle.replay_text.specs.Texts.{answer_text}
use Rattle.order_text.specs.Orders.{point_in, order_of, event_of}
use Rattle.order_text.specs.Texts.{point_text, orders_text}

-- kind 7, doubles 1, 2, 3, 0.5, -0.5, 0.25, 20, 5: a curve chord to (1,2,3) with offset (0.5,-0.5,0.25), speed 20 and radius 5
chord : event_of (0 ∷ 0 ∷ 0 ∷ 7 ∷ 63 ∷ 240 ∷ 0 ∷ 0 ∷ 0 ∷ 0 ∷ 0 ∷ 0 ∷ 64 ∷ 0 ∷ 0 ∷ 0 ∷ 0 ∷ 0 ∷ 0 ∷ 0 ∷ 64 ∷ 8 ∷ 0 ∷ 0 ∷ 0 ∷ 0 ∷ 0 ∷ 0 ∷ 63 ∷ 224 ∷ 0 ∷ 0 ∷ 0 ∷ 0 ∷ 0 ∷ 0 ∷ 191 ∷ 224 ∷ 0 ∷ 0 ∷ 0 ∷ 0 ∷ 0 ∷ 0 ∷ 63 ∷ 208 ∷ 0 ∷ 0 ∷ 0 ∷ 0 ∷ 0 ∷ 0 ∷ 64 ∷ 52 ∷ 0 ∷ 0 ∷ 0 ∷ 0 ∷ 0 ∷ 0 ∷ 64 ∷ 20 ∷ 0 ∷ 0 ∷ 0 ∷ 0 ∷ 0 ∷ 0 ∷ [])
    ≡ Order
    (CurveChord (record { x = fin false 1 (pos 0); y = fin false 1 (pos 1); z = fin false 3 (pos 0) }) (fin false 5 (pos 2)) (fin false 5 (pos 0)))
    (record { x = fin false 1 (negsuc 0); y = fin true 1 (negsuc 0); z = fin false 1 (negsuc 1) })
unfolding event_of order_of point_in field_of number_of joined of_bits
chord = refl

-- the point (1000,-2,0), µm: `point 4652007308841189376 13835058055282163712 0`
point : point_text (position_of (record { x = pos 1000; y = negsuc 1; z = pos 0; orders = 3 }))
    ≡ 112 ∷ 111 ∷ 105 ∷ 110 ∷ 116 ∷ 32 ∷ 52 ∷ 54 ∷ 53 ∷ 50 ∷ 48 ∷ 48 ∷ 55 ∷ 51 ∷ 48 ∷ 56 ∷ 56 ∷ 52 ∷ 49 ∷ 49 ∷ 56 ∷ 57 ∷ 51 ∷ 55 ∷ 54 ∷ 32 ∷ 49 ∷ 51 ∷ 56 ∷ 51 ∷ 53 ∷ 48 ∷ 53 ∷ 56 ∷ 48 ∷ 53 ∷ 53 ∷ 50 ∷ 56 ∷ 50 ∷ 49 ∷ 54 ∷ 51 ∷ 55 ∷ 49 ∷ 50 ∷ 32 ∷ 48 ∷ 10 ∷ []
unfolding of_int to_bits line spaced decimal digits_of
point = refl

-- machine M
machine : List ℕ
machine = 1 ∷ 134 ∷ 160 ∷ 0 ∷ 195 ∷ 80 ∷ 0 ∷ 97 ∷ 168 ∷ 30 ∷ 132 ∷ 129 ∷ 232 ∷ 72 ∷ 30 ∷ 132 ∷ 128 ∷ 0 ∷ 250 ∷ 0 ∷ 8 ∷ 250 ∷ 0 ∷ 0 ∷ []

-- no bytes: `refused 9 at 0`
no_limits : orders_text [] [] ≡ 114 ∷ 101 ∷ 102 ∷ 117 ∷ 115 ∷ 101 ∷ 100 ∷ 32 ∷ 57 ∷ 32 ∷ 97 ∷ 116 ∷ 32 ∷ 48 ∷ 10 ∷ []
unfolding orders_text limits_read_refusal line spaced decimal digits_of refused_words
no_limits = refl

-- a take, and one byte more: `refused 8`, `refused 9 at 2`, `held 0`, `plan 0`, `point 0 0 0`
cut : orders_text (machine ++ replicate 69 0) []
    ≡ 114 ∷ 101 ∷ 102 ∷ 117 ∷ 115 ∷ 101 ∷ 100 ∷ 32 ∷ 56 ∷ 10 ∷ 114 ∷ 101 ∷ 102 ∷ 117 ∷ 115 ∷ 101 ∷ 100 ∷ 32 ∷ 57 ∷ 32 ∷ 97 ∷ 116 ∷ 32 ∷ 50 ∷ 10 ∷ 104 ∷ 101 ∷ 108 ∷ 100 ∷ 32 ∷ 48 ∷ 10 ∷ 112 ∷ 108 ∷ 97 ∷ 110 ∷ 32 ∷ 48 ∷ 10 ∷ 112 ∷ 111 ∷ 105 ∷ 110 ∷ 116 ∷ 32 ∷ 48 ∷ 32 ∷ 48 ∷ 32 ∷ 48 ∷ 10 ∷ []
unfolding machine orders_text limits_read_refusal steps_refusal limits_fault zero_bits limits_at limits_from limits_refusal limits_within split number_of joined each_record event_of field_of each_of answer_text event_answers calls_of_all host_after_all line_answer line_after_all line_after spans_of plan_of start_limit forward of_int to_bits line spaced decimal digits_of refused_words
cut = refl
