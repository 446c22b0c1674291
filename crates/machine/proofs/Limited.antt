-- The largest number that each axis allows. From arith's laws of the capped quotient.
use mathlib.Core.Path.{◌≡◌, sym, ◌∙◌}
use Prim.Native.Nat.{ℕ, zero, suc, ◌*◌, ◌/◌, ◌≤◌, ◌<◌}
use native.Mathlib.Nat.{le_trans, mul-zero, min-eq_right, le_of_lt, div-lt_iff_lt-mul}
use native.Mathlib.Omega.{arith}
use Rattle.arith.proofs.QuotientLaws.{quotient_is, quotient_cap, quotient_positive}
use Rattle.machine.specs.Numbers.{unit, axis_limit, each_axis}
use Rattle.machine.specs.declared.Axes.{Axes}

-- where the cap is not too much, it is the answer
pub axis_cap : (cap limit length along : ℕ) → cap * (unit * along) ≤ limit * length → cap ≡ axis_limit cap limit length along
unfolding axis_limit
axis_cap cap limit length along h = sym (quotient_cap cap (limit * length) (unit * along) h)

-- where it is too much, the axis moves
pub axis_moves : (cap n part : ℕ) → n < cap * part → 0 < part
axis_moves cap n zero h = absurd (omega (arith, mul-zero cap))
axis_moves cap n (suc part) h = omega arith

-- and the quotient is the answer
pub axis_quotient : (cap limit length along : ℕ) → limit * length < cap * (unit * along) → limit * length / (unit * along) ≡ axis_limit cap limit length along
unfolding axis_limit
axis_quotient cap limit length along h =
    let moves = axis_moves cap (limit * length) (unit * along) h in
    sym (quotient_positive cap (limit * length) (unit * along) moves ∙ min-eq_right (le_of_lt ((div-lt_iff_lt-mul moves).1 h)))

-- the answer is not above the cap
pub axis_below : (cap limit length along : ℕ) → axis_limit cap limit length along ≤ cap
unfolding axis_limit
axis_below cap limit length along = (quotient_is cap (limit * length) (unit * along)).not_above_cap

-- nor is it for all axes
pub each_below : (cap : ℕ) (limits : Axes) (length : ℕ) (m : Axes) → each_axis cap limits length m ≤ cap
unfolding each_axis
each_below cap limits length m = le_trans (axis_below _ _ _ _) (le_trans (axis_below _ _ _ _) (axis_below _ _ _ _))
