-- Document 01, "Numbers on the display": the number of each refusal, and when 1 to 6 are given.
use Rattle.std.specs.Prelude.{ℕ, max, Bool, not, ◌&&◌, cond, leb, ltb, eqb, nat_abs}
use Rattle.machine.specs.Ranges.{least_accel, most_accel, least_speed, most_speed, least_jump, most_jump, least_chord, most_chord, least_tick, most_tick, most_move, least_feed, most_feed, most_radius, most_mark}
use Rattle.machine.specs.declared.Axes.{Axes}
use Rattle.machine.specs.declared.Limits.{Limits}
use Rattle.machine.specs.declared.Block.{Block}

-- a value is from low to high
abbrev pub within : (low high value : ℕ) → Bool
within low high value = leb low value && leb value high

-- the values of the three axes are from low to high
abbrev pub axes_within : (low high : ℕ) → Axes → Bool
axes_within low high a = within low high a.x && within low high a.y && within low high a.z

-- every machine limit is in its range
unfoldable pub limits_within : Limits → Bool
limits_within l =
    axes_within least_accel most_accel l.accel
    && axes_within least_speed most_speed l.speed
    && (within least_jump most_jump l.jump && within least_chord most_chord l.chord && within least_tick most_tick l.tick)

-- 1 where a machine limit is outside its range, else 0
unfoldable pub limits_refusal : Limits → ℕ
limits_refusal l = cond (limits_within l) 0 1

-- |move| of a block on each axis, µm
abbrev pub moves_of : Block → Axes
moves_of b = record { x = nat_abs b.x; y = nat_abs b.y; z = nat_abs b.z }

-- the greatest of them
unfoldable pub greatest_move : Block → ℕ
greatest_move b = max (moves_of b).x (max (moves_of b).y (moves_of b).z)

-- the first of 2 to 6 whose condition holds, else 0
unfoldable pub block_refusal : Block → ℕ
block_refusal b =
    cond (eqb (greatest_move b) 0) 2
    (cond (ltb most_move (greatest_move b)) 3
    (cond (not (within least_feed most_feed b.feed)) 4
    (cond (ltb most_radius b.radius) 5
    (cond (ltb most_mark b.mark) 6 0))))
