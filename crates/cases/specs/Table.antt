-- Document 01's starred proof cases, in its order, with those of the requests: what the definitions compute, and what the papers say.
-- The theorem `every_case_holds` of `proofs/` proves them together.
use Rattle.std.specs.Prelude.{List, ◌∷◌, ◌++◌, map, [], ◌≡◌, ℕ, pos, neg_ℤ, replicate}
use Rattle.profile.specs.Line.{number_at}
use Rattle.profile.specs.Passes.{plan_of}
use Rattle.machine.specs.Numbers.{OpenCap, none, up_to, length_of, accel_of, reach_of, chord_cap, block_cap, corner_cap, numbers_of, ramp_of}
use Rattle.machine.specs.Line.{spans_of}
use Rattle.machine.specs.Labels.{plain_block}
use Rattle.machine.specs.Torque.{steps_refusal, machine_refusal, torque_percent}
use Rattle.machine.specs.declared.Block.{Block}
use Rattle.machine.specs.declared.Numbers.{Numbers}
use Rattle.machine.specs.declared.Ramp.{Ramp}
use Rattle.machine.specs.Answers.{numbers_answer}
use Rattle.display.specs.Display.{Outcome, given, refused}
use Rattle.line.specs.Answers.{answer_number}
use Rattle.line.specs.Blocks.{Call, add, take, fresh_line, line_answers}
use Rattle.cases.specs.Shop.{limits_m, limits_with, machine_m, machine_with, curved, block}

-- a case: the numbers that are computed, and those of the paper
pub record Case : Type 0 where
  pub computed : List ℕ
  pub expected : List ℕ

infix 4 ◌gives◌
abbrev pub ◌gives◌ : List ℕ → List ℕ → Case
computed gives expected = record { computed = computed; expected = expected }

-- every case of a table holds: its numbers are the paper's
pub data Holds : List Case → Type 0 where
  done : Holds []
  also : {c : Case} {rest : List Case} → c.computed ≡ c.expected → Holds rest → Holds (c ∷ rest)

-- the moves of the cases, µm
abbrev east : Block
east = block (pos 1_000) (pos 0) (pos 0)

abbrev west : Block
west = block (neg_ℤ (pos 1_000)) (pos 0) (pos 0)

abbrev north : Block
north = block (pos 0) (pos 1_000) (pos 0)

-- a corner cap as numbers: none is no number
abbrev cap_numbers : OpenCap → List ℕ
cap_numbers none = []
cap_numbers (up_to q) = q ∷ []

-- the plan from rest of a line of blocks on machine M
abbrev plan : List Block → List ℕ
plan line = plan_of 0 (spans_of machine_m line)

-- Q-3's case: the acceleration of (100000,0,0) at feed 300,000, and the plan of two of them, with loaded steps
abbrev long : Block
long = plain_block (pos 100_000) (pos 0) (pos 0) 300_000 0 0

abbrev loaded_numbers : (loaded : List ℕ) → List ℕ
loaded_numbers loaded = accel_of (machine_with loaded) long ∷ plan_of 0 (spans_of (machine_with loaded) (long ∷ long ∷ []))

-- a block that does not move, and what a call for a block's numbers answers: its refusal, or 0 and the acceleration
abbrev still : Block
still = block (pos 0) (pos 0) (pos 0)

abbrev answered : Outcome ℕ Numbers → List ℕ
answered (given n) = 0 ∷ n.accel ∷ []
answered (refused number) = number ∷ []

-- peak, up, cruise and down of a line's first block, by the first two numbers of its plan
abbrev ramp_numbers : Ramp → List ℕ
ramp_numbers r = r.peak ∷ r.up ∷ r.cruise ∷ r.down ∷ []

abbrev first_ramp : Block → List Block → List ℕ
first_ramp b rest = ramp_numbers (ramp_of (numbers_of machine_m b) (number_at (plan (b ∷ rest)) 0) (number_at (plan (b ∷ rest)) 1))

-- the numbers that a list of calls shows, from a fresh planner on machine M
abbrev displayed : List Call → List ℕ
displayed calls = map answer_number (line_answers (fresh_line machine_m) calls)

unfoldable pub table : List Case
table =
    -- Lengths: (1,0,0) 1; (1,1,0) 1; (2,2,1) 3; three times 1,000,000 gives 1,732,050
    (length_of (block (pos 1) (pos 0) (pos 0)) ∷ [] gives 1 ∷ [])
    ∷ (length_of (block (pos 1) (pos 1) (pos 0)) ∷ [] gives 1 ∷ [])
    ∷ (length_of (block (pos 2) (pos 2) (pos 1)) ∷ [] gives 3 ∷ [])
    ∷ (length_of (block (pos 1_000_000) (pos 1_000_000) (pos 1_000_000)) ∷ [] gives 1_732_050 ∷ [])
    -- (3,4,0): a 250,000, b 2,500,000
    ∷ (accel_of machine_m (block (pos 3) (pos 4) (pos 0)) ∷ reach_of machine_m (block (pos 3) (pos 4) (pos 0)) ∷ [] gives 250_000 ∷ 2_500_000 ∷ [])
    -- (1000,0,0) then (0,1000,0): corner cap 2,000,000
    ∷ (cap_numbers (corner_cap limits_m east north) gives 2_000_000 ∷ [])
    -- (1000,0,0) then (-1000,0,0): corner cap 1,000,000
    ∷ (cap_numbers (corner_cap limits_m east west) gives 1_000_000 ∷ [])
    -- (1000,0,0) twice, straight on: none
    ∷ (cap_numbers (corner_cap limits_m east east) gives [])
    -- Radius 1,000 gives a chord cap of 1,999,000,000 (Q-4); at feed 20,000 the block cap is still 400,000,000
    ∷ (chord_cap limits_m 1_000 ∷ block_cap limits_m (curved 1_000 (pos 1_000) (pos 0) (pos 0)) ∷ [] gives 1_999_000_000 ∷ 400_000_000 ∷ [])
    -- Radius 1 gives 1,000,000 (Q-4), and the block cap is that: in a tick the circle's diameter
    ∷ (chord_cap limits_m 1 ∷ block_cap limits_m (curved 1 (pos 1_000) (pos 0) (pos 0)) ∷ [] gives 1_000_000 ∷ 1_000_000 ∷ [])
    -- By Q-4's formula: radii 2, 3 and 10,000,000; with E 1,000 and T 100 radii 1, 999 and 10,000,000; with E 1 radius 1 at T 10,000, and
    -- at T 3,000, where the quotient is rounded down
    ∷ (map (chord_cap limits_m) (2 ∷ 3 ∷ 10_000_000 ∷ []) gives 3_000_000 ∷ 5_000_000 ∷ 19_999_999_000_000 ∷ [])
    ∷ (map (chord_cap (limits_with 1_000 100)) (1 ∷ 999 ∷ 10_000_000 ∷ []) gives 400_000_000 ∷ 399_200_400_000_000 ∷ 7_999_600_000_000_000_000 ∷ [])
    ∷ (chord_cap (limits_with 1 10_000) 1 ∷ chord_cap (limits_with 1 3_000) 1 ∷ [] gives 40_000 ∷ 444_444 ∷ [])
    -- One block (1000,0,0): plan 0, 0; peak 200,000,000; up 500, cruise 0, down 500
    ∷ (plan (east ∷ []) gives 0 ∷ 0 ∷ [])
    ∷ (first_ramp east [] gives 200_000_000 ∷ 500 ∷ 0 ∷ 500 ∷ [])
    -- One block (1001,0,0), Q-2: up and down are 500.5, a half that goes down in up and up in down
    ∷ (first_ramp (block (pos 1_001) (pos 0) (pos 0)) [] gives 200_200_000 ∷ 500 ∷ 0 ∷ 501 ∷ [])
    -- (1000,0,0) then (0,1000,0), Q-2: the first block's ramp is 502, 0, 498
    ∷ (first_ramp east (north ∷ []) gives 201_000_000 ∷ 502 ∷ 0 ∷ 498 ∷ [])
    -- Two blocks (1000,0,0): plan 0, 400,000,000, 0
    ∷ (plan (east ∷ east ∷ []) gives 0 ∷ 400_000_000 ∷ 0 ∷ [])
    -- Torque steps: the first and the last speed of each of the eight
    ∷ (
    map (torque_percent machine_m.torque)
    (1 ∷ 125_000 ∷ 125_001 ∷ 250_000 ∷ 250_001 ∷ 375_000 ∷ 375_001 ∷ 500_000 ∷ 500_001 ∷ 625_000 ∷ 625_001 ∷ 750_000 ∷ 750_001 ∷ 875_000 ∷ 875_001 ∷ 1_000_000 ∷ [])
    gives 100 ∷ 100 ∷ 100 ∷ 100 ∷ 90 ∷ 90 ∷ 80 ∷ 80 ∷ 70 ∷ 70 ∷ 60 ∷ 60 ∷ 50 ∷ 50 ∷ 40 ∷ 40 ∷ []
    )
    -- Q-3: no steps loaded, eight times 100, 100 down to 30, eight times 1
    ∷ (loaded_numbers [] gives 180_000 ∷ 0 ∷ 36_000_000_000 ∷ 0 ∷ [])
    ∷ (loaded_numbers (replicate 8 100) gives 200_000 ∷ 0 ∷ 40_000_000_000 ∷ 0 ∷ [])
    ∷ (loaded_numbers (100 ∷ 90 ∷ 80 ∷ 70 ∷ 60 ∷ 50 ∷ 40 ∷ 30 ∷ []) gives 160_000 ∷ 0 ∷ 32_000_000_000 ∷ 0 ∷ [])
    ∷ (loaded_numbers (replicate 8 1) gives 2_000 ∷ 0 ∷ 400_000_000 ∷ 0 ∷ [])
    -- Q-3: these are accepted, and so are none and the built-in ones; refused by 14 are seven and nine, a 0, a 101, and a rise at the second, the
    -- fifth and the last step; bad limits come first
    ∷ (
    map steps_refusal ([] ∷ replicate 8 100 ∷ replicate 8 1 ∷ (100 ∷ 90 ∷ 80 ∷ 70 ∷ 60 ∷ 50 ∷ 40 ∷ 30 ∷ []) ∷ (100 ∷ 100 ∷ 90 ∷ 80 ∷ 70 ∷ 60 ∷ 50 ∷ 40 ∷ []) ∷ [])
    gives replicate 5 0
    )
    ∷ (
    map steps_refusal (
    replicate 7 1
    ∷ replicate 9 1
    ∷ (0 ∷ replicate 7 1)
    ∷ (replicate 7 1 ++ 0 ∷ [])
    ∷ replicate 8 101
    ∷ (101 ∷ replicate 7 100)
    ∷ (90 ∷ 91 ∷ replicate 6 1)
    ∷ (replicate 4 50 ++ 51 ∷ replicate 3 1)
    ∷ (replicate 7 1 ++ 2 ∷ [])
    ∷ []
    )
    gives replicate 9 14
    )
    -- a block's numbers: 1, then 14, then 2
    ∷ (
    answered (numbers_answer (limits_with 0 2_000) (0 ∷ []) still) ++ answered (numbers_answer limits_m (0 ∷ []) still) ++ answered (numbers_answer limits_m (replicate 8 1) still)
    ++ answered (numbers_answer limits_m (replicate 8 1) long)
    gives 1 ∷ 14 ∷ 2 ∷ 0 ∷ 2_000 ∷ []
    )
    ∷ (machine_refusal (limits_with 0 2_000) (0 ∷ []) ∷ machine_refusal limits_m (0 ∷ []) ∷ machine_refusal limits_m [] ∷ [] gives 1 ∷ 14 ∷ 0 ∷ [])
    -- Add 64 is taken, 65 is refused by 7; after one take it is accepted
    ∷ (displayed (replicate 65 (add east) ++ take ∷ add east ∷ []) gives (replicate 64 0 ++ 7 ∷ 0 ∷ 0 ∷ []))
    ∷ []
