-- What document 01's proof cases run on: machine M, and blocks of feed 20,000 with no curve unless said.
use Rattle.std.specs.Prelude.{ℕ, List, [], ℤ}
use Rattle.machine.specs.Labels.{plain_block}
use Rattle.machine.specs.Torque.{machine_of}
use Rattle.machine.specs.declared.Axes.{Axes}
use Rattle.machine.specs.declared.Limits.{Limits}
use Rattle.machine.specs.declared.Machine.{Machine}
use Rattle.machine.specs.declared.Block.{Block}

-- the same on every axis
abbrev pub every : ℕ → Axes
every n = record { x = n; y = n; z = n }

-- machine M's limits with another chord tolerance E, µm, and tick T, µs
abbrev pub limits_with : (chord tick : ℕ) → Limits
limits_with chord tick = record { accel = every 200_000; speed = every 1_000_000; jump = 2_000; chord = chord; tick = tick }

-- machine M's limits: each acceleration limit 200,000, each speed limit 1,000,000, J 2,000, E 1, T 2,000
abbrev pub limits_m : Limits
limits_m = limits_with 1 2_000

-- machine M with loaded torque steps (Q-3), and with none
abbrev pub machine_with : (loaded : List ℕ) → Machine
machine_with loaded = machine_of limits_m loaded

abbrev pub machine_m : Machine
machine_m = machine_with []

-- a block on a curve of a radius, µm
abbrev pub curved : (radius : ℕ) (x y z : ℤ) → Block
curved radius x y z = plain_block x y z 20_000 radius 0

-- a block with no curve
abbrev pub block : (x y z : ℤ) → Block
block = curved 0
