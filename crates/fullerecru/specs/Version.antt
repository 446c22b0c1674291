-- The version of the functions for C: 0.12.0.
use Rattle.std.specs.Prelude.{ℕ, ◌+◌, ◌*◌}

abbrev pub major : ℕ
major = 0

abbrev pub minor : ℕ
minor = 12

abbrev pub patch : ℕ
patch = 0

-- as one number
abbrev pub version_number : ℕ
version_number = 1_000_000 * major + 1_000 * minor + patch
