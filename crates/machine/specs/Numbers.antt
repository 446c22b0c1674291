-- Document 01, "From a block to its numbers" and the ramp of "Plan, give out, ramp".
-- Lengths are in µm, speeds in µm/s, squared speeds and reaches in (µm/s)², accelerations in µm/s².
use Rattle.std.specs.Prelude.{ℕ, zero, suc, ◌+◌, ◌-◌, ◌*◌, ◌/◌, ◌^◌, ◌≤◌, ◌<◌, min, max, Bool, ◌&&◌, cond, leb, ltb, eqb, ℤ, pos, ◌+ℤ◌, ◌*ℤ◌}
use Rattle.arith.specs.Root.{root_of}
use Rattle.arith.specs.Quotient.{capped_quotient}
use Rattle.arith.specs.Signed.{gap_of}
use Rattle.machine.specs.Ranges.{most_accel}
use Rattle.machine.specs.Checks.{moves_of}
use Rattle.machine.specs.Torque.{torque_percent}
use Rattle.machine.specs.declared.Axes.{Axes}
use Rattle.machine.specs.declared.Limits.{Limits}
use Rattle.machine.specs.declared.Machine.{Machine}
use Rattle.machine.specs.declared.Block.{Block}
use Rattle.machine.specs.declared.Numbers.{Numbers}
use Rattle.machine.specs.declared.Gauged.{Gauged}
use Rattle.machine.specs.declared.Ramp.{Ramp}

-- parts of a µm in which a length is counted
abbrev pub unit : ℕ
unit = 1

-- every axis has less than `bound`
abbrev pub AxesBelow : (bound : ℕ) → Axes → Type 0
AxesBelow bound a = (a.x < bound) × (a.y < bound) × (a.z < bound)

-- every limit is below 2^32: then each product that is formed in one word fits 64 bits. J × J × P and the chord rule's factor × 10^12,
-- which have up to 82 and 77 bits within the ranges, are never formed in one: they go to the capped quotient as two factors
abbrev pub LimitsBelow : Limits → Type 0
LimitsBelow l = AxesBelow (2 ^ 32) l.accel × AxesBelow (2 ^ 32) l.speed × (l.jump < 2 ^ 32) × (l.chord < 2 ^ 32) × (l.tick < 2 ^ 32)

-- Length L: the root of the sum of the squared moves, rounded down
unfoldable pub length_from : Axes → ℕ
length_from m = root_of (unit * unit * (m.x * m.x + m.y * m.y + m.z * m.z))

abbrev pub length_of : Block → ℕ
length_of b = length_from (moves_of b)

-- the largest number not above `cap` with number × move ≤ limit × length on one axis, along which the block moves `along` µm
unfoldable pub axis_limit : (cap limit length along : ℕ) → ℕ
axis_limit cap limit length along = capped_quotient cap (limit * length) (unit * along)

-- the same on every axis; an axis that does not move allows everything
unfoldable pub each_axis : (cap : ℕ) (limits : Axes) (length : ℕ) (m : Axes) → ℕ
each_axis cap limits length m = axis_limit (axis_limit (axis_limit cap limits.x length m.x) limits.y length m.y) limits.z length m.z

-- Block speed v: as fast as the feed and the speed limit of every moving axis allow
unfoldable pub speed_of : Limits → Block → ℕ
speed_of l b = each_axis b.feed l.speed (length_of b) (moves_of b)

-- as much acceleration as the limit of every moving axis allows
-- (of a block that moves it is below the bound given here: the law `axis_accel_largest`)
unfoldable pub axis_accel : Limits → Block → ℕ
axis_accel l b = each_axis (2 * most_accel) l.accel (length_of b) (moves_of b)

-- Acceleration a: the percent of the torque step of it, rounded down, but never below 1
unfoldable pub accel_of : Machine → Block → ℕ
accel_of m b = max 1 (axis_accel m.limits b * torque_percent m.torque (speed_of m.limits b) / 100)

-- Reach b = 2 × a × L
unfoldable pub reach_from : (accel length : ℕ) → ℕ
reach_from accel length = 2 * accel * length / unit

abbrev pub reach_of : Machine → Block → ℕ
reach_of m b = reach_from (accel_of m b) (length_of b)

-- e: how far the middle of a chord may lie from its circle, µm: the smaller of E and R
abbrev pub tolerance_at : Limits → (radius : ℕ) → ℕ
tolerance_at l radius = min l.chord radius

-- chord rule: 8 × e × R - 4 × e × e, which is never cut off (the law `factor_whole`)
unfoldable pub chord_factor : Limits → (radius : ℕ) → ℕ
chord_factor l radius = let e = tolerance_at l radius in 8 * e * radius - 4 * e * e

-- the chord rule's cap: the greatest q for which q × T × T stays within (8 × e × R - 4 × e × e) × 10^12
unfoldable pub chord_cap : Limits → (radius : ℕ) → ℕ
chord_cap l radius = chord_factor l radius * 1_000_000_000_000 / (l.tick * l.tick)

-- Block cap: v squared, on a curve under the chord rule too
-- (the law `chord_capped` says that this is the smaller of v squared and the chord rule's cap)
unfoldable pub block_cap_from : Limits → (radius speed : ℕ) → ℕ
block_cap_from l radius speed =
    cond (eqb radius 0) (speed * speed)
    (capped_quotient (speed * speed) (chord_factor l radius * 1_000_000_000_000) (l.tick * l.tick))

abbrev pub block_cap : Limits → Block → ℕ
block_cap l b = block_cap_from l b.radius (speed_of l b)

-- a block's numbers together
unfoldable pub numbers_of : Machine → Block → Numbers
numbers_of m b = record { length = length_of b; accel = accel_of m b; reach = reach_of m b; cap = block_cap m.limits b }

-- v squared, (µm/s)²
abbrev pub square_of : Limits → Block → ℕ
square_of l b = speed_of l b * speed_of l b

-- it and a block's numbers, of which the cap may be below it on a curve
abbrev pub gauged_of : Machine → Block → Gauged
gauged_of m b = record { square = square_of m.limits b; numbers = numbers_of m b }

-- S: the scalar product of two moves, µm². P, the product of their lengths, counts parts of a µm
abbrev pub dot_of : Block → Block → ℤ
dot_of a b = (a.x *ℤ b.x) +ℤ (a.y *ℤ b.y) +ℤ (a.z *ℤ b.z)

-- P - S, or 0 where S ≥ P
unfoldable pub turn_from : (product : ℕ) → Block → Block → ℕ
turn_from product a b = gap_of product (pos (unit * unit) *ℤ dot_of a b)

-- A cap that may be none, as a corner's
pub data OpenCap : Type 0 where
  none : OpenCap
  up_to : ℕ → OpenCap

-- none without a turn; else the greatest q for which q × 2 × (P - S) stays within J × J × P
unfoldable pub corner_from : (jump product turn : ℕ) → OpenCap
corner_from jump product zero = none
corner_from jump product (suc turn) = up_to (jump * jump * product / (2 * suc turn))

-- Corner cap between two blocks
unfoldable pub corner_cap : Limits → Block → Block → OpenCap
corner_cap l a b = corner_from l.jump (length_of a * length_of b) (turn_from (length_of a * length_of b) a b)

-- a cap under one that may be none
abbrev pub under_cap : OpenCap → ℕ → ℕ
under_cap none cap = cap
under_cap (up_to q) cap = min cap q

-- Junction cap: the least of the caps of both blocks and of their corner
unfoldable pub junction_cap : Limits → Block → Block → ℕ
junction_cap l a b = under_cap (corner_cap l a b) (min (block_cap l a) (block_cap l b))

-- the same from two blocks' numbers (of a machine's numbers it is the junction cap: the law `junction_from_numbers`)
unfoldable pub junction_from : (jump : ℕ) (a : Block) (na : Numbers) (b : Block) (nb : Numbers) → ℕ
junction_from jump a na b nb =
    let product = na.length * nb.length in
    under_cap (corner_from jump product (turn_from product a b)) (min na.cap nb.cap)

-- the corner cap beside the block caps of two blocks with these numbers, as a number: one more than the smaller block cap where it is none or greater
unfoldable pub corner_beside : (jump : ℕ) (a : Block) (na : Numbers) (b : Block) (nb : Numbers) → ℕ
corner_beside jump a na b nb =
    let product = na.length * nb.length in
    under_cap (corner_from jump product (turn_from product a b)) (min na.cap nb.cap + 1)

-- a corner jump, moves and lengths that fit the words in which it is worked out
pub record Joinable (jump : ℕ) (a : Block) (na : Numbers) (b : Block) (nb : Numbers) : Type 0 where
  pub jump_below : jump < 2 ^ 32
  pub first_length : na.length < 2 ^ 30
  pub second_length : nb.length < 2 ^ 30
  pub first_moves : AxesBelow (2 ^ 21) (moves_of a)
  pub second_moves : AxesBelow (2 ^ 21) (moves_of b)

-- the peak: the greatest squared speed under the block cap that the reach allows from the entry and back to the exit
unfoldable pub peak_of : (cap reach entry exit : ℕ) → ℕ
peak_of cap reach entry exit = min cap ((reach + entry + exit) / 2)

-- up: (p - entry) / (2 × a) to the nearest, an exact half down (the law `up_nearest`)
unfoldable pub up_of : (rise accel : ℕ) → ℕ
up_of rise accel = (unit * rise + accel - 1) / (2 * accel)

-- down: (p - exit) / (2 × a) to the nearest, an exact half up (the law `down_nearest`)
unfoldable pub down_of : (fall accel : ℕ) → ℕ
down_of fall accel = (unit * fall + accel) / (2 * accel)

-- entry and exit squared speeds within a block's cap and reach, as a plan's are
pub record Rampable (n : Numbers) (entry exit : ℕ) : Type 0 where
  pub accel_above : 0 < n.accel
  pub accel_below : n.accel < 2 ^ 32
  pub cap_below : n.cap < 2 ^ 50
  pub reach_below : n.reach < 2 ^ 62
  pub entry_capped : entry ≤ n.cap
  pub exit_capped : exit ≤ n.cap
  pub falls : entry ≤ exit + n.reach
  pub rises : exit ≤ entry + n.reach

-- the test for it
abbrev pub sized : Numbers → (entry exit : ℕ) → Bool
sized n entry exit =
    ((ltb 0 n.accel && ltb n.accel (2 ^ 32)) && (ltb n.cap (2 ^ 50) && ltb n.reach (2 ^ 62)))
    && (leb entry n.cap && leb exit n.cap)

unfoldable pub rampable : Numbers → (entry exit : ℕ) → Bool
rampable n entry exit = sized n entry exit && (leb entry (exit + n.reach) && leb exit (entry + n.reach))

-- the ramp of a block between two squared speeds
unfoldable pub ramp_of : Numbers → (entry exit : ℕ) → Ramp
ramp_of n entry exit =
    let peak = peak_of n.cap n.reach entry exit in
    let up = up_of (peak - entry) n.accel in
    let down = down_of (peak - exit) n.accel in
    record { peak = peak; up = up; cruise = n.length - up - down; down = down }

-- what stands for a ramp where there is none
abbrev pub no_ramp : Ramp
no_ramp = record { peak = 0; up = 0; cruise = 0; down = 0 }
