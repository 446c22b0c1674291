-- Worked tapes on machine M, which compute: the bytes were written apart from the definitions.
use Rattle.std.proofs.Common.{◌≡◌, ℕ, List, [], ◌∷◌, ◌++◌, replicate, refl}
use Rattle.arith.specs.Root.{root_of, root_by_digits, next_root}
use Rattle.arith.specs.Quotient.{capped_quotient}
use Rattle.display.specs.Display.{given, ◌at◌}
use Rattle.fields.specs.Layouts.{joined, split}
use Rattle.fields.specs.Bytes.{number_of}
use Rattle.fields.specs.Signed.{signed_of}
use Rattle.profile.specs.Passes.{brake, start_limit, forward, plan_of}
use Rattle.machine.specs.Caps.{JunctionCaps, caps_between, least_cap}
use Rattle.machine.specs.Checks.{limits_refusal, limits_within, greatest_move, block_refusal}
use Rattle.machine.specs.Labels.{labelled_block}
use Rattle.machine.specs.Line.{spans_after, spans_of}
use Rattle.machine.specs.Lists.{limits_from}
use Rattle.machine.specs.Numbers.{OpenCap, none, up_to, length_from, axis_limit, each_axis, speed_of, axis_accel, accel_of, reach_from, chord_factor, chord_cap, block_cap_from, numbers_of, turn_from, corner_from, corner_cap, junction_cap, peak_of, ramp_of}
use Rattle.machine.specs.Torque.{falling, steps_refusal, torque_percent}
use Rattle.tape.specs.Tape.{limits_at, zero_bits, block_at, blocks_from, tape_blocks}
use Rattle.tape.specs.Answers.{limits_fault, head_refusal, fault_from}
use Rattle.tapeplan.specs.Planned.{tape_plan, whole_fault}
use Rattle.report.specs.Counts.{count_to, greatest_to, list_from, sum_to}
use Rattle.report.specs.Figures.{figure_numbers, tape_figures}
use Rattle.report.specs.Held.{caps_at, held_by, held_list}
use Rattle.report.specs.Report.{add_fault, all_of}
use Rattle.report.specs.declared.Figures.{Figures}

-- figures in the order in which a line has them
abbrev figures : (blocks length peak feed corner chord reach : ℕ) → Figures
figures blocks length peak feed corner chord reach =
    record { blocks = blocks; length = length; peak = peak; feed = feed; corner = corner; chord = chord; reach = reach }

-- a tape with loaded torque steps, the squared speeds of its plan, what holds its inner junctions, and its figures
record Case : Type 0 where
  tape : List ℕ
  steps : List ℕ
  plan : List ℕ
  held : List ℕ
  figures : Figures

abbrev Right : Case → Type 0
Right c = (tape_plan c.tape c.steps ≡ c.plan) × (held_list c.tape c.steps ≡ c.held) × (tape_figures c.tape c.steps ≡ given c.figures)

infixr 4 ◌and◌
data All (P : Case → Type 0) : List Case → Type 0 where
  done : All P []
  ◌and◌ : {c : Case} {rest : List Case} → P c → All P rest → All P (c ∷ rest)

machine : List ℕ
machine = 1 ∷ 134 ∷ 160 ∷ 0 ∷ 195 ∷ 80 ∷ 0 ∷ 97 ∷ 168 ∷ 30 ∷ 132 ∷ 129 ∷ 232 ∷ 72 ∷ 30 ∷ 132 ∷ 128 ∷ 0 ∷ 250 ∷ 0 ∷ 8 ∷ 250 ∷ 0 ∷ 0 ∷ []

-- the right-angle pair: the corner
pair : Case
pair =
    record {
      tape = machine ++ 0 ∷ 31 ∷ 64 ∷ 0 ∷ 0 ∷ 0 ∷ 0 ∷ 0 ∷ 9 ∷ 196 ∷ 0 ∷ 0 ∷ 0 ∷ 0 ∷ 0 ∷ 7 ∷ 0 ∷ 0 ∷ 0 ∷ 0 ∷ 250 ∷ 0 ∷ 0 ∷ 0 ∷ 9 ∷ 196 ∷ 0 ∷ 0 ∷ 0 ∷ 0 ∷ 0 ∷ 8 ∷ [];
      steps = [];
      plan = 0 ∷ 2_000_000 ∷ 0 ∷ [];
      held = 1 ∷ [];
      figures = figures 2 2000 201_000_000 0 1 0 0;
    }

-- the same with torque steps of 50 percent: a lower peak
slow_pair : Case
slow_pair =
    record {
      tape = pair.tape;
      steps = replicate 8 50;
      plan = 0 ∷ 2_000_000 ∷ 0 ∷ [];
      held = 1 ∷ [];
      figures = figures 2 2000 101_000_000 0 1 0 0;
    }

-- seven blocks: straight on, a right angle, two chords of radius 1 and two short blocks: feed, corner, chord three times, and reach
mixed : Case
mixed =
    record {
      tape = machine ++ 0 ∷ 31 ∷ 64 ∷ 0 ∷ 0 ∷ 0 ∷ 0 ∷ 0 ∷ 9 ∷ 196 ∷ 0 ∷ 0 ∷ 0 ∷ 0 ∷ 0 ∷ 1 ∷ 0 ∷ 31 ∷ 64 ∷ 0 ∷ 0 ∷ 0 ∷ 0 ∷ 0 ∷ 9 ∷ 196 ∷ 0 ∷ 0 ∷ 0 ∷ 0 ∷ 0 ∷ 2 ∷ 0 ∷ 0 ∷ 0 ∷ 0 ∷ 250 ∷ 0 ∷ 0 ∷ 0 ∷ 9 ∷ 196 ∷ 0 ∷ 0 ∷ 0 ∷ 0 ∷ 0 ∷ 3 ∷ 0 ∷ 3 ∷ 32 ∷ 0 ∷ 0 ∷ 0 ∷ 0 ∷ 0 ∷ 9 ∷ 196 ∷ 0 ∷ 0 ∷ 0 ∷ 32 ∷ 0 ∷ 4 ∷ 0 ∷ 3 ∷ 32 ∷ 0 ∷ 0 ∷ 0 ∷ 0 ∷ 0 ∷ 9 ∷ 196 ∷ 0 ∷ 0 ∷ 0 ∷ 32 ∷ 0 ∷ 5 ∷ 0 ∷ 0 ∷ 40 ∷ 0 ∷ 0 ∷ 0 ∷ 0 ∷ 0 ∷ 9 ∷ 196 ∷ 0 ∷ 0 ∷ 0 ∷ 0 ∷ 0 ∷ 6 ∷ 0 ∷ 0 ∷ 40 ∷ 0 ∷ 0 ∷ 0 ∷ 0 ∷ 0 ∷ 9 ∷ 196 ∷ 0 ∷ 0 ∷ 0 ∷ 0 ∷ 0 ∷ 7 ∷ [];
      steps = [];
      plan = 0 ∷ 400_000_000 ∷ 2_000_000 ∷ 1_000_000 ∷ 1_000_000 ∷ 1_000_000 ∷ 2_000_000 ∷ 0 ∷ [];
      held = 0 ∷ 1 ∷ 2 ∷ 2 ∷ 2 ∷ 3 ∷ [];
      figures = figures 7 3210 400_000_000 1 1 3 1;
    }

-- there and back, where corner and feed of 1,000 allow the same: feed
back_feed : Case
back_feed =
    record {
      tape = machine ++ 0 ∷ 31 ∷ 64 ∷ 0 ∷ 0 ∷ 0 ∷ 0 ∷ 0 ∷ 0 ∷ 125 ∷ 0 ∷ 0 ∷ 0 ∷ 0 ∷ 0 ∷ 1 ∷ 255 ∷ 224 ∷ 192 ∷ 0 ∷ 0 ∷ 0 ∷ 0 ∷ 0 ∷ 0 ∷ 125 ∷ 0 ∷ 0 ∷ 0 ∷ 0 ∷ 0 ∷ 2 ∷ [];
      steps = [];
      plan = 0 ∷ 1_000_000 ∷ 0 ∷ [];
      held = 0 ∷ [];
      figures = figures 2 2000 1_000_000 1 0 0 0;
    }

-- there and back on chords of radius 1, where corner and chord rule allow the same: corner
back_radius : Case
back_radius =
    record {
      tape = machine ++ 0 ∷ 31 ∷ 64 ∷ 0 ∷ 0 ∷ 0 ∷ 0 ∷ 0 ∷ 9 ∷ 196 ∷ 0 ∷ 0 ∷ 0 ∷ 32 ∷ 0 ∷ 1 ∷ 255 ∷ 224 ∷ 192 ∷ 0 ∷ 0 ∷ 0 ∷ 0 ∷ 0 ∷ 9 ∷ 196 ∷ 0 ∷ 0 ∷ 0 ∷ 32 ∷ 0 ∷ 2 ∷ [];
      steps = [];
      plan = 0 ∷ 1_000_000 ∷ 0 ∷ [];
      held = 1 ∷ [];
      figures = figures 2 2000 1_000_000 0 1 0 0;
    }

-- straight on by chords of radius 1, where feed of 1,000 and chord rule allow the same: feed
straight_radius : Case
straight_radius =
    record {
      tape = machine ++ 0 ∷ 31 ∷ 64 ∷ 0 ∷ 0 ∷ 0 ∷ 0 ∷ 0 ∷ 0 ∷ 125 ∷ 0 ∷ 0 ∷ 0 ∷ 32 ∷ 0 ∷ 1 ∷ 0 ∷ 31 ∷ 64 ∷ 0 ∷ 0 ∷ 0 ∷ 0 ∷ 0 ∷ 0 ∷ 125 ∷ 0 ∷ 0 ∷ 0 ∷ 32 ∷ 0 ∷ 2 ∷ [];
      steps = [];
      plan = 0 ∷ 1_000_000 ∷ 0 ∷ [];
      held = 0 ∷ [];
      figures = figures 2 2000 1_000_000 1 0 0 0;
    }

-- three short blocks: reach
short : Case
short =
    record {
      tape = machine ++ 0 ∷ 0 ∷ 80 ∷ 0 ∷ 0 ∷ 0 ∷ 0 ∷ 0 ∷ 9 ∷ 196 ∷ 0 ∷ 0 ∷ 0 ∷ 0 ∷ 0 ∷ 1 ∷ 0 ∷ 0 ∷ 80 ∷ 0 ∷ 0 ∷ 0 ∷ 0 ∷ 0 ∷ 9 ∷ 196 ∷ 0 ∷ 0 ∷ 0 ∷ 0 ∷ 0 ∷ 2 ∷ 0 ∷ 0 ∷ 80 ∷ 0 ∷ 0 ∷ 0 ∷ 0 ∷ 0 ∷ 9 ∷ 196 ∷ 0 ∷ 0 ∷ 0 ∷ 0 ∷ 0 ∷ 3 ∷ [];
      steps = [];
      plan = 0 ∷ 4_000_000 ∷ 4_000_000 ∷ 0 ∷ [];
      held = 3 ∷ 3 ∷ [];
      figures = figures 3 30 6_000_000 0 0 0 2;
    }

-- three straight on, of which the one between has the higher feed: the smaller of the two
feeds : Case
feeds =
    record {
      tape = machine ++ 0 ∷ 31 ∷ 64 ∷ 0 ∷ 0 ∷ 0 ∷ 0 ∷ 0 ∷ 0 ∷ 125 ∷ 0 ∷ 0 ∷ 0 ∷ 0 ∷ 0 ∷ 1 ∷ 0 ∷ 31 ∷ 64 ∷ 0 ∷ 0 ∷ 0 ∷ 0 ∷ 0 ∷ 9 ∷ 196 ∷ 0 ∷ 0 ∷ 0 ∷ 0 ∷ 0 ∷ 2 ∷ 0 ∷ 31 ∷ 64 ∷ 0 ∷ 0 ∷ 0 ∷ 0 ∷ 0 ∷ 0 ∷ 125 ∷ 0 ∷ 0 ∷ 0 ∷ 0 ∷ 0 ∷ 3 ∷ [];
      steps = [];
      plan = 0 ∷ 1_000_000 ∷ 1_000_000 ∷ 0 ∷ [];
      held = 0 ∷ 0 ∷ [];
      figures = figures 3 3000 201_000_000 2 0 0 0;
    }

-- limits only
empty : Case
empty =
    record {
      tape = machine;
      steps = [];
      plan = 0 ∷ [];
      held = [];
      figures = figures 0 0 0 0 0 0 0;
    }

-- each of them comes to its plan, to what holds it and to its figures
worked : All Right (pair ∷ slow_pair ∷ mixed ∷ back_feed ∷ back_radius ∷ straight_radius ∷ short ∷ feeds ∷ empty ∷ [])
unfolding machine pair slow_pair mixed back_feed back_radius straight_radius short feeds empty held_by least_cap caps_between list_from count_to sum_to greatest_to tape_figures whole_fault head_refusal limits_fault zero_bits limits_at block_at blocks_from tape_blocks fault_from limits_from labelled_block number_of joined split signed_of limits_refusal limits_within greatest_move block_refusal falling steps_refusal torque_percent root_of root_by_digits next_root capped_quotient length_from axis_limit each_axis speed_of axis_accel accel_of reach_from chord_factor chord_cap block_cap_from numbers_of turn_from corner_from corner_cap junction_cap peak_of ramp_of spans_after spans_of brake start_limit forward plan_of
worked = (refl, refl, refl) and (refl, refl, refl) and (refl, refl, refl) and (refl, refl, refl) and (refl, refl, refl) and (refl, refl, refl) and (refl, refl, refl) and (refl, refl, refl) and (refl, refl, refl) and done

-- the order of the figures in a list, and of a report's numbers
listed : (figure_numbers mixed.figures ≡ 7 ∷ 3210 ∷ 400_000_000 ∷ 1 ∷ 1 ∷ 3 ∷ 1 ∷ []) × (all_of (4 ∷ 11 ∷ 7210 ∷ 400_000_000 ∷ 1 ∷ 3 ∷ 3 ∷ 2 ∷ []) ≡ figures 11 7210 400_000_000 1 3 3 2)
unfolding mixed
listed = (refl, refl)

-- the caps of the three that are tied
abbrev caps : (feed : ℕ) (corner chord : OpenCap) → JunctionCaps
caps feed corner chord = record { feed = feed; corner = corner; chord = chord }

tied : (caps_at back_feed.tape 0 ≡ caps 1_000_000 (up_to 1_000_000) none) × (caps_at back_radius.tape 0 ≡ caps 400_000_000 (up_to 1_000_000) (up_to 1_000_000))
    × (caps_at straight_radius.tape 0 ≡ caps 1_000_000 none (up_to 1_000_000))
unfolding machine back_feed back_radius straight_radius caps_between limits_at limits_from block_at labelled_block number_of joined split signed_of root_of root_by_digits next_root capped_quotient length_from axis_limit each_axis speed_of chord_factor chord_cap turn_from corner_from corner_cap
tied = (refl, refl, refl)

-- a tape of 5 bytes: 9 while there is room for one more, and 10 before it where there is none
last : add_fault 99 (replicate 5 0) [] ≡ 9 at 0
unfolding add_fault whole_fault head_refusal
last = refl

full : add_fault 100 (replicate 5 0) [] ≡ 10 at 0
unfolding add_fault
full = refl
