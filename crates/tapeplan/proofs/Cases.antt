-- Worked examples of the whole tape's checks, which compute: the bytes were written apart from the definitions.
use mathlib.Core.Path.{◌≡◌, refl}
use mathlib.Core.List.{List, ◌∷◌, ◌++◌, []}
use Prim.Native.Nat.{ℕ}
use lib.ListN.{replicate}
use Rattle.display.specs.Display.{◌at◌}
use Rattle.fields.specs.Layouts.{joined, split}
use Rattle.fields.specs.Bytes.{number_of}
use Rattle.fields.specs.Signed.{signed_of}
use Rattle.machine.specs.Checks.{limits_refusal, limits_within, greatest_move, block_refusal}
use Rattle.machine.specs.Labels.{labelled_block}
use Rattle.machine.specs.Lists.{limits_from}
use Rattle.machine.specs.Torque.{falling, steps_refusal}
use Rattle.tape.specs.Tape.{limits_at, zero_bits, block_at, blocks_from, tape_blocks}
use Rattle.tape.specs.Answers.{limits_fault, head_refusal, fault_from}
use Rattle.tapeplan.specs.Planned.{whole_fault, plan_fault}

-- machine M, and steps of which one is out of range
machine : List ℕ
machine = 1 ∷ 134 ∷ 160 ∷ 0 ∷ 195 ∷ 80 ∷ 0 ∷ 97 ∷ 168 ∷ 30 ∷ 132 ∷ 129 ∷ 232 ∷ 72 ∷ 30 ∷ 132 ∷ 128 ∷ 0 ∷ 250 ∷ 0 ∷ 8 ∷ 250 ∷ 0 ∷ 0 ∷ []

bad : List ℕ
bad = replicate 8 101

-- a byte too many before all, then limits of 0, then bad steps, then a record that does not move, then the list's length
ragged : plan_fault (replicate 25 0) bad 9 ≡ 9 at 0
unfolding bad plan_fault whole_fault head_refusal
ragged = refl

limits : plan_fault (replicate 24 0) bad 9 ≡ 1 at 0
unfolding bad plan_fault whole_fault head_refusal steps_refusal falling limits_fault zero_bits limits_at limits_from limits_refusal limits_within split number_of joined
limits = refl

steps : plan_fault (machine ++ replicate 16 0) bad 9 ≡ 14 at 0
unfolding machine bad plan_fault whole_fault head_refusal steps_refusal falling limits_fault zero_bits limits_at limits_from limits_refusal limits_within split number_of joined
steps = refl

record_still : plan_fault (machine ++ replicate 16 0) (replicate 8 1) 9 ≡ 2 at 1
unfolding machine plan_fault whole_fault head_refusal steps_refusal falling limits_fault zero_bits limits_at limits_from limits_refusal limits_within split number_of joined tape_blocks blocks_from block_at labelled_block signed_of fault_from block_refusal greatest_move
record_still = refl

list : plan_fault machine [] 9 ≡ 11 at 0
unfolding machine plan_fault whole_fault head_refusal steps_refusal limits_fault zero_bits limits_at limits_from limits_refusal limits_within split number_of joined tape_blocks blocks_from fault_from
list = refl

passed : plan_fault machine (replicate 8 1) 1 ≡ 0 at 0
unfolding machine plan_fault whole_fault head_refusal steps_refusal falling limits_fault zero_bits limits_at limits_from limits_refusal limits_within split number_of joined tape_blocks blocks_from fault_from
passed = refl
