-- Every case of the table holds, by computation.
use mathlib.Core.Bool.{Bool, true, false, ◌&&◌}
use mathlib.Core.List.{List, ◌∷◌, []}
use mathlib.Core.Path.{◌≡◌, refl}
use Prim.Native.Nat.{ℕ}
use borrow.Author.Tests.{eqb-true}
use lib.Dec.{eqb}
use Rattle.arith.specs.Root.{root_of, root_by_digits, next_root}
use Rattle.arith.specs.Quotient.{capped_quotient}
use Rattle.profile.specs.Passes.{brake, start_limit, forward, plan_of}
use Rattle.machine.specs.Numbers.{length_from, axis_limit, each_axis, speed_of, axis_accel, accel_of, reach_from, chord_factor, chord_cap, block_cap_from, numbers_of, turn_from, corner_from, corner_cap, junction_cap, peak_of, up_of, down_of, ramp_of}
use Rattle.machine.specs.Torque.{falling, steps_refusal, torque_percent}
use Rattle.fields.specs.Bytes.{number_of}
use Rattle.fields.specs.Layouts.{joined}
use Rattle.machine.specs.Checks.{limits_within, limits_refusal, greatest_move, block_refusal}
use Rattle.machine.specs.Line.{spans_after, spans_of}
use Rattle.line.specs.Blocks.{line_answer, line_after, line_answers}
use Rattle.arith.proofs.Tests.{both}
use Rattle.cases.specs.Table.{Case, Holds, done, also, table}

-- two lists have the same numbers
same : List ℕ → List ℕ → Bool
same [] [] = true
same [] (y ∷ t) = false
same (x ∷ s) [] = false
same (x ∷ s) (y ∷ t) = eqb x y && same s t

same_true : (s t : List ℕ) → same s t ≡ true → s ≡ t
unfolding same
same_true [] [] e = refl
same_true [] (y ∷ t) e = cc
same_true (x ∷ s) [] e = cc
same_true (x ∷ s) (y ∷ t) e = let h = both (eqb x y) (same s t) e in λ i. eqb-true x y h.0 i ∷ same_true s t h.1 i

-- every case of a table computes to its numbers
right : List Case → Bool
right [] = true
right (c ∷ rest) = same c.computed c.expected && right rest

right_holds : (cases : List Case) → right cases ≡ true → Holds cases
unfolding right
right_holds [] e = done
right_holds (c ∷ rest) e = let h = both (same c.computed c.expected) (right rest) e in also (same_true _ _ h.0) (right_holds rest h.1)

-- document 01's starred proof cases, and those of the requests
pub every_case_holds : Holds table
unfolding table right same root_of root_by_digits next_root capped_quotient brake start_limit forward plan_of length_from axis_limit each_axis speed_of number_of joined falling steps_refusal torque_percent axis_accel accel_of reach_from chord_factor chord_cap block_cap_from numbers_of turn_from corner_from corner_cap junction_cap peak_of up_of down_of ramp_of spans_after spans_of limits_within limits_refusal greatest_move block_refusal line_answer line_after line_answers
every_case_holds = right_holds table refl
