-- The ranges of document 01, "The machine and the block".
use Rattle.std.specs.Prelude.{ℕ}

-- acceleration limit of an axis, µm/s²
abbrev pub least_accel : ℕ
least_accel = 1

abbrev pub most_accel : ℕ
most_accel = 20_000_000

-- speed limit of an axis, µm/s
abbrev pub least_speed : ℕ
least_speed = 1

abbrev pub most_speed : ℕ
most_speed = 1_000_000

-- corner jump J, µm/s
abbrev pub least_jump : ℕ
least_jump = 1

abbrev pub most_jump : ℕ
most_jump = 1_000_000

-- chord tolerance E, µm
abbrev pub least_chord : ℕ
least_chord = 1

abbrev pub most_chord : ℕ
most_chord = 1_000

-- tick T, microseconds
abbrev pub least_tick : ℕ
least_tick = 100

abbrev pub most_tick : ℕ
most_tick = 10_000

-- move of a block on an axis, either way, µm
abbrev pub most_move : ℕ
most_move = 1_000_000

-- feed, µm/s
abbrev pub least_feed : ℕ
least_feed = 1

abbrev pub most_feed : ℕ
most_feed = 1_000_000

-- radius, µm
abbrev pub most_radius : ℕ
most_radius = 10_000_000

-- torque steps, and the percentage of each
abbrev pub step_count : ℕ
step_count = 8

abbrev pub least_percent : ℕ
least_percent = 1

abbrev pub most_percent : ℕ
most_percent = 100

-- mark
abbrev pub most_mark : ℕ
most_mark = 2_097_151
