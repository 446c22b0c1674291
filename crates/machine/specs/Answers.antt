-- What the machine's calls answer: a value, or a number on the display.
use Rattle.std.specs.Prelude.{ℕ, List}
use Rattle.display.specs.Display.{◌then◌, Outcome, or_refused}
use Rattle.machine.specs.Checks.{limits_refusal, block_refusal}
use Rattle.machine.specs.Numbers.{numbers_of, junction_cap}
use Rattle.machine.specs.Torque.{machine_of, machine_refusal, steps_refusal}
use Rattle.machine.specs.declared.Limits.{Limits}
use Rattle.machine.specs.declared.Machine.{Machine}
use Rattle.machine.specs.declared.Block.{Block}
use Rattle.machine.specs.declared.Numbers.{Numbers}

-- refusal 1, then the first of 2 to 6 that the block meets, else 0
abbrev pub call_refusal : Limits → Block → ℕ
call_refusal l b = limits_refusal l then block_refusal b

-- the machine of limits that passed and of loaded steps, refused by 14
abbrev pub loaded_answer : Limits → (loaded : List ℕ) → Outcome ℕ Machine
loaded_answer l loaded = or_refused (steps_refusal loaded) (machine_of l loaded)

-- the machine of any limits and loaded steps, refused by 1, then by 14
abbrev pub machine_answer : Limits → (loaded : List ℕ) → Outcome ℕ Machine
machine_answer l loaded = or_refused (machine_refusal l loaded) (machine_of l loaded)

-- a block's numbers on that machine, refused by 1, then by 14, then by 2 to 6
abbrev pub numbers_answer : Limits → (loaded : List ℕ) → Block → Outcome ℕ Numbers
numbers_answer l loaded b = or_refused (machine_refusal l loaded then block_refusal b) (numbers_of (machine_of l loaded) b)

-- the junction cap between two blocks, (µm/s)², refused by 1, then by 2 to 6 of the first block, then of the second
abbrev pub junction_answer : Limits → (a b : Block) → Outcome ℕ ℕ
junction_answer l a b = or_refused (call_refusal l a then block_refusal b) (junction_cap l a b)
