-- What document 01 says of the numbers where it says "the largest whole number with ...", in its own inequalities, Q-4 of the chord rule,
-- and Q-2 where it says "nearest". The definitions of `Numbers` compute by roots and quotients; the laws of `proofs/` say that they are these numbers.
use Rattle.std.specs.Prelude.{◌≡◌, List, [], ℕ, suc, ◌+◌, ◌-◌, ◌*◌, ◌≤◌, ◌<◌, ℤ, pos, ◌-ℤ◌, length, get_or, ◌≤ℤ◌}
use Rattle.arith.specs.Nearest.{NearestHalfDown, NearestHalfUp}
use Rattle.machine.specs.Ranges.{step_count, least_percent, most_percent}
use Rattle.machine.specs.Checks.{moves_of}
use Rattle.machine.specs.Numbers.{OpenCap, none, up_to, unit, length_of, block_cap, tolerance_at, corner_cap}
use Rattle.machine.specs.declared.Axes.{Axes}
use Rattle.machine.specs.declared.Limits.{Limits}
use Rattle.machine.specs.declared.Block.{Block}
use Rattle.machine.specs.declared.Numbers.{Numbers}
use Rattle.machine.specs.declared.Ramp.{Ramp}

-- q is the largest whole number that has the property
pub record Largest (Has : ℕ → Type 0) (q : ℕ) : Type 0 where
  pub has : Has q
  pub most : (p : ℕ) → Has p → p ≤ q

-- eight percentages of 1 to 100, none of which exceeds the one before it
pub record StepsFit (steps : List ℕ) : Type 0 where
  pub eight : length steps ≡ step_count
  pub in_range : (i : ℕ) → i < step_count → (least_percent ≤ get_or steps i 0) × (get_or steps i 0 ≤ most_percent)
  pub falls : (i : ℕ) → suc i < step_count → get_or steps (suc i) 0 ≤ get_or steps i 0

-- steps that are accepted: none are loaded, or such
pub data StepsAccepted : (loaded : List ℕ) → Type 0 where
  none_loaded : StepsAccepted []
  fit : {loaded : List ℕ} → StepsFit loaded → StepsAccepted loaded

-- a square not above the sum of the three squared moves
abbrev pub RootFits : Axes → ℕ → Type 0
RootFits m n = n * n ≤ unit * unit * (m.x * m.x + m.y * m.y + m.z * m.z)

-- rate × |move| ≤ limit × L on each axis; an axis that does not move allows every rate
pub record Allowed (limits : Axes) (length : ℕ) (m : Axes) (rate : ℕ) : Type 0 where
  pub on_x : rate * (unit * m.x) ≤ limits.x * length
  pub on_y : rate * (unit * m.y) ≤ limits.y * length
  pub on_z : rate * (unit * m.z) ≤ limits.z * length

-- a speed not above the feed that every axis allows
abbrev pub SpeedFits : Limits → Block → ℕ → Type 0
SpeedFits l b v = (v ≤ b.feed) × Allowed l.speed (length_of b) (moves_of b) v

-- an acceleration that every axis allows
abbrev pub AccelFits : Limits → Block → ℕ → Type 0
AccelFits l b = Allowed l.accel (length_of b) (moves_of b)

-- q × T × T ≤ (8 × e × R - 4 × e × e) × 10^12, with no subtraction: 10^12 because T is in µs
abbrev pub ChordFits : Limits → (radius : ℕ) → ℕ → Type 0
ChordFits l radius q =
    let e = tolerance_at l radius in
    q * (l.tick * l.tick) + 4 * e * e * 1_000_000_000_000 ≤ 8 * e * radius * 1_000_000_000_000

-- what that says of the curve. In one tick the squared speed q moves a chord c of the circle, c² = q × T² / 10^12. Its middle lies within
-- e of the circle where it is at least R - e away from the centre: where (R - e)² + (c / 2)² ≤ R², here 4 × 10^12 times. As e is at
-- most R, R - e is no less than 0
abbrev pub ChordWithin : Limits → (radius : ℕ) → ℕ → Type 0
ChordWithin l radius q =
    let apart = radius - tolerance_at l radius in
    4 * (apart * apart) * 1_000_000_000_000 + q * (l.tick * l.tick) ≤ 4 * (radius * radius) * 1_000_000_000_000

-- what a corner cap is between blocks with P = `product` and S = `sum`: none where S ≥ P, otherwise, with the turn
-- P - S above 0, the greatest number that the rule allows
abbrev pub CornerIs : (jump product : ℕ) (sum : ℤ) → OpenCap → Type 0
CornerIs jump product sum none = pos product ≤ℤ sum
CornerIs jump product sum (up_to q) =
    (turn : ℕ) × (pos turn ≡ pos product -ℤ sum) × (0 < turn) × Largest (λ p. p * (2 * turn) ≤ jump * jump * product) q

-- a squared speed not above a cap that may be none
abbrev pub CapFits : OpenCap → ℕ → Type 0
CapFits none q = 0 ≤ q
CapFits (up_to cap) q = q ≤ cap

-- a squared speed not above the two block caps and the corner cap
abbrev pub JunctionFits : Limits → (a b : Block) → ℕ → Type 0
JunctionFits l a b q = (q ≤ block_cap l a) × (q ≤ block_cap l b) × CapFits (corner_cap l a b) q

-- a peak under the block cap whose rise and fall together stay within the reach
abbrev pub PeakFits : (cap reach entry exit : ℕ) → ℕ → Type 0
PeakFits cap reach entry exit p = (p ≤ cap) × (2 * p ≤ reach + entry + exit)

-- the length of speeding up by `rise`, (µm/s)²: the nearest to rise / (2 × a), an exact half down
abbrev pub UpIs : (rise accel up : ℕ) → Type 0
UpIs rise accel = NearestHalfDown (unit * rise) (2 * accel)

-- the length of braking by `fall`, (µm/s)²: the nearest to fall / (2 × a), an exact half up
abbrev pub DownIs : (fall accel down : ℕ) → Type 0
DownIs fall accel = NearestHalfUp (unit * fall) (2 * accel)

-- the ramp of a block with these numbers between two squared speeds: up from the entry to the largest peak, down from it to the exit, and
-- the rest of the length between them (the law `ramp_one` says that there is one such ramp only)
pub record RampIs (n : Numbers) (entry exit : ℕ) (r : Ramp) : Type 0 where
  pub peak_is : Largest (PeakFits n.cap n.reach entry exit) r.peak
  pub entry_below : entry ≤ r.peak
  pub exit_below : exit ≤ r.peak
  pub up_is : UpIs (r.peak - entry) n.accel r.up
  pub down_is : DownIs (r.peak - exit) n.accel r.down
  pub fills : r.up + r.cruise + r.down ≡ n.length
