-- Worked tapes on machine M as rows of numbers, which compute: the bytes and the numbers were written apart from the definitions.
use mathlib.Core.Path.{◌≡◌, refl}
use mathlib.Core.List.{List, ◌∷◌, ◌++◌, []}
use Prim.Native.Nat.{ℕ}
use Rattle.arith.specs.Root.{root_of, root_by_digits, next_root}
use Rattle.arith.specs.Quotient.{capped_quotient}
use Rattle.display.specs.Display.{◌at◌}
use Rattle.fields.specs.Layouts.{joined, split}
use Rattle.fields.specs.Bytes.{number_of}
use Rattle.fields.specs.Signed.{signed_of}
use Rattle.profile.specs.Passes.{brake, start_limit, forward, plan_of}
use Rattle.machine.specs.Checks.{limits_refusal, limits_within, greatest_move, block_refusal}
use Rattle.machine.specs.Labels.{labelled_block}
use Rattle.machine.specs.Line.{spans_after, spans_of}
use Rattle.machine.specs.Lists.{limits_from}
use Rattle.machine.specs.Numbers.{length_from, axis_limit, each_axis, speed_of, axis_accel, accel_of, reach_from, chord_factor, block_cap_from, numbers_of, turn_from, corner_from, corner_cap, junction_cap, peak_of, up_of, down_of, ramp_of}
use Rattle.machine.specs.Torque.{falling, steps_refusal, torque_percent}
use Rattle.line.specs.Answers.{given_of}
use Rattle.tape.specs.Tape.{limits_at, zero_bits, block_at, blocks_from, tape_blocks}
use Rattle.tape.specs.Answers.{limits_fault, head_refusal, fault_from}
use Rattle.tapeplan.specs.Planned.{sized_fault, whole_fault}
use Rattle.tape_rows.specs.Rows.{rows_from, rows_size, tape_rows}

machine : List ℕ
machine = 1 ∷ 134 ∷ 160 ∷ 0 ∷ 195 ∷ 80 ∷ 0 ∷ 97 ∷ 168 ∷ 30 ∷ 132 ∷ 129 ∷ 232 ∷ 72 ∷ 30 ∷ 132 ∷ 128 ∷ 0 ∷ 250 ∷ 0 ∷ 8 ∷ 250 ∷ 0 ∷ 0 ∷ []

-- 1 mm along X, then 1 mm along Y, or 0.1 mm along X as a chord of radius 1 µm, at 20 mm/s
first : List ℕ
first = 0 ∷ 31 ∷ 64 ∷ 0 ∷ 0 ∷ 0 ∷ 0 ∷ 0 ∷ 9 ∷ 196 ∷ 0 ∷ 0 ∷ 0 ∷ 0 ∷ 0 ∷ 7 ∷ []

across : List ℕ
across = 0 ∷ 0 ∷ 0 ∷ 0 ∷ 250 ∷ 0 ∷ 0 ∷ 0 ∷ 9 ∷ 196 ∷ 0 ∷ 0 ∷ 0 ∷ 0 ∷ 0 ∷ 8 ∷ []

chord : List ℕ
chord = 0 ∷ 3 ∷ 32 ∷ 0 ∷ 0 ∷ 0 ∷ 0 ∷ 0 ∷ 9 ∷ 196 ∷ 0 ∷ 0 ∷ 0 ∷ 32 ∷ 0 ∷ 4 ∷ []

-- the right-angle pair: feed, radius, mark, length, acceleration, entry, exit, peak, up, cruise, down, the block's cap, the junction's; and a chord of
-- so small a radius that its cap holds the junction before it too
worked :
    (tape_rows (machine ++ first ++ across) []
    ≡ 20_000 ∷ 0 ∷ 7 ∷ 1000 ∷ 200_000 ∷ 0 ∷ 2_000_000 ∷ 201_000_000 ∷ 502 ∷ 0 ∷ 498 ∷ 400_000_000 ∷ 0
    ∷ 20_000 ∷ 0 ∷ 8 ∷ 1000 ∷ 200_000 ∷ 2_000_000 ∷ 0 ∷ 201_000_000 ∷ 497 ∷ 0 ∷ 503 ∷ 400_000_000 ∷ 2_000_000 ∷ [])
    × (tape_rows (machine ++ first ++ chord) []
    ≡ 20_000 ∷ 0 ∷ 7 ∷ 1000 ∷ 200_000 ∷ 0 ∷ 1_000_000 ∷ 200_500_000 ∷ 501 ∷ 0 ∷ 499 ∷ 400_000_000 ∷ 0
    ∷ 20_000 ∷ 1 ∷ 4 ∷ 100 ∷ 200_000 ∷ 1_000_000 ∷ 0 ∷ 1_000_000 ∷ 0 ∷ 97 ∷ 3 ∷ 1_000_000 ∷ 1_000_000 ∷ [])
unfolding machine first across chord rows_from given_of limits_at block_at blocks_from tape_blocks limits_from labelled_block number_of joined split signed_of torque_percent root_of root_by_digits next_root capped_quotient length_from axis_limit each_axis speed_of axis_accel accel_of reach_from chord_factor block_cap_from numbers_of turn_from corner_from corner_cap junction_cap peak_of up_of down_of ramp_of spans_after spans_of brake start_limit forward plan_of
worked = (refl, refl)

-- 26 numbers are lent for two blocks, else 11
sized : (sized_fault (machine ++ first ++ across) [] (rows_size (machine ++ first ++ across)) 26 ≡ 0 at 0) × (sized_fault (machine ++ first ++ across) [] (rows_size (machine ++ first ++ across)) 25 ≡ 11 at 0)
unfolding machine first across whole_fault head_refusal limits_fault zero_bits limits_at block_at blocks_from tape_blocks fault_from limits_from labelled_block number_of joined split signed_of limits_refusal limits_within greatest_move block_refusal falling steps_refusal
sized = (refl, refl)
