-- Document 01's torque steps, and the owner's own (Q-3): how much of the acceleration the motors give at a speed, in percent. Loaded steps
-- are bytes.
use Rattle.std.specs.Prelude.{ℕ, ◌-◌, ◌*◌, ◌/◌, ◌%◌, ◌^◌, Bool, true, ◌&&◌, cond, List, ◌∷◌, [], eqb, length}
use Rattle.display.specs.Display.{◌then◌}
use Rattle.fields.specs.Bytes.{number_of}
use Rattle.machine.specs.Ranges.{step_count, least_percent, most_percent}
use Rattle.machine.specs.Checks.{within, limits_refusal}
use Rattle.machine.specs.declared.Limits.{Limits}
use Rattle.machine.specs.declared.Machine.{Machine}

-- the built-in steps
abbrev pub built_in_steps : List ℕ
built_in_steps = 100 ∷ 100 ∷ 90 ∷ 80 ∷ 70 ∷ 60 ∷ 50 ∷ 40 ∷ []

-- the steps that serve: the built-in ones where none are loaded, which an empty list means
abbrev pub steps_in_force : (loaded : List ℕ) → List ℕ
steps_in_force [] = built_in_steps
steps_in_force (percent ∷ rest) = percent ∷ rest

-- each percentage is at least 1, and none exceeds the one before it; the first does not exceed `most`
unfoldable pub falling : (most : ℕ) → List ℕ → Bool
falling most [] = true
falling most (percent ∷ rest) = within least_percent most percent && falling percent rest

-- 14 where steps are loaded that are not eight, or out of range, or rising, else 0 (by index: the laws `steps_accepted`, `steps_fitting`)
unfoldable pub steps_refusal : (loaded : List ℕ) → ℕ
steps_refusal [] = 0
steps_refusal (percent ∷ rest) = cond (eqb (length (percent ∷ rest)) step_count && falling most_percent (percent ∷ rest)) 0 14

-- the machine with these limits and loaded steps: a byte for each step, the first most significant
abbrev pub machine_of : Limits → (loaded : List ℕ) → Machine
machine_of l loaded = record { limits = l; torque = number_of (steps_in_force loaded) }

-- refusal 1 of the limits, then 14 of the loaded steps, else 0
abbrev pub machine_refusal : Limits → (loaded : List ℕ) → ℕ
machine_refusal l loaded = limits_refusal l then steps_refusal loaded

-- the percent at a speed: a step is 125,000 µm/s, the first begins at 1, the eighth and last has the lowest byte
-- (of a machine with accepted steps it is that step's percentage: the law `percent_is`)
unfoldable pub torque_percent : (torque v : ℕ) → ℕ
torque_percent torque v = torque / 2 ^ (8 * (7 - (v - 1) / 125_000)) % 256
