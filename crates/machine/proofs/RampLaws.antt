-- The ramp is what the rules say, and they allow no other: the peak is the largest number, not below entry or exit; up and down are the
-- nearest, and together not longer than the block, so the three lengths make it up. From arith's laws of the nearest.
use mathlib.Core.Path.{◌≡◌, sym}
use Prim.Native.Nat.{ℕ, ◌+◌, ◌-◌, ◌*◌, ◌/◌, ◌^◌, ◌≤◌, ◌<◌}
use native.Mathlib.Nat.{le_antisymm, le-min, min-le_left, min-le_right, mul-div-le, mul-le-mul, mul-le-mul_left, mul-add, mul_comm}
use native.Mathlib.Omega.{arith}
use Rattle.arith.proofs.NearestLaws.{half_down_quotient, half_up_quotient, nearest_one, halves_fit}
use Rattle.machine.specs.Checks.{moves_of, block_refusal}
use Rattle.machine.specs.Numbers.{unit, length_of, accel_of, reach_from, reach_of, block_cap, numbers_of, peak_of, up_of, down_of, Rampable, ramp_of}
use Rattle.machine.specs.Meaning.{Largest, PeakFits, UpIs, DownIs, RampIs}
use Rattle.machine.specs.declared.Machine.{Machine}
use Rattle.machine.specs.declared.Block.{Block}
use Rattle.machine.specs.declared.Numbers.{Numbers}
use Rattle.machine.specs.declared.Ramp.{Ramp}
use Rattle.machine.proofs.LengthLaws.{largest_one}
use Rattle.machine.proofs.Bounds.{moves_below, length_below}
use Rattle.machine.proofs.AxisLaws.{accel_above, accel_below}
use Rattle.machine.proofs.CapLaws.{block_cap_below}

-- the peak is the largest number of the rule
pub peak_largest : (cap reach entry exit : ℕ) → Largest (PeakFits cap reach entry exit) (peak_of cap reach entry exit)
unfolding peak_of
peak_largest cap reach entry exit = record {
  has = (min-le_left cap _, omega (arith, min-le_right cap ((reach + entry + exit) / 2)));
  most = λ p h. le-min h.0 (omega (arith, h.1));
}

-- entry and exit are not above it
pub peak_above : (n : Numbers) (entry exit : ℕ) → Rampable n entry exit
    → (entry ≤ peak_of n.cap n.reach entry exit) × (exit ≤ peak_of n.cap n.reach entry exit)
peak_above n entry exit r =
    let peak = peak_largest n.cap n.reach entry exit in
    (peak.most entry (r.entry_capped, omega (arith, r.falls)), peak.most exit (r.exit_capped, omega (arith, r.rises)))

-- up and down are the nearest
pub up_nearest : (rise accel : ℕ) → 0 < accel → UpIs rise accel (up_of rise accel)
unfolding up_of
up_nearest rise accel h = half_down_quotient (unit * rise) accel h

pub down_nearest : (fall accel : ℕ) → 0 < accel → DownIs fall accel (down_of fall accel)
unfolding down_of
down_nearest fall accel h = half_up_quotient (unit * fall) accel h

-- up and down together are not longer than the block
pub ramp_within : (n : Numbers) (entry exit : ℕ) → Rampable n entry exit → n.reach ≡ reach_from n.accel n.length
    → (ramp_of n entry exit).up + (ramp_of n entry exit).down ≤ n.length
unfolding ramp_of reach_from
ramp_within n entry exit r e =
    let peak = peak_of n.cap n.reach entry exit in
    let rise = peak - entry in
    let fall = peak - exit in
    let change : rise + fall ≤ n.reach = omega (arith, (peak_largest n.cap n.reach entry exit).has.1, peak_above n entry exit r) in
    let reach : unit * n.reach ≤ 2 * n.accel * n.length = rw e (mul-div-le (2 * n.accel * n.length) unit) in
    halves_fit (unit * rise) (unit * fall) (2 * n.accel) _ _ n.length (omega (arith, r.accel_above))
    (up_nearest rise n.accel r.accel_above)
    (down_nearest fall n.accel r.accel_above)
    (omega (arith, mul-add unit rise fall, mul-le-mul_left unit change, reach, mul_comm n.length (2 * n.accel)))

-- and the three lengths make it up
pub ramp_fills : (n : Numbers) (entry exit : ℕ) → Rampable n entry exit → n.reach ≡ reach_from n.accel n.length
    → (ramp_of n entry exit).up + (ramp_of n entry exit).cruise + (ramp_of n entry exit).down ≡ n.length
unfolding ramp_of
ramp_fills n entry exit r e = omega (arith, ramp_within n entry exit r e)

-- so the ramp is what the rules say,
pub ramp_is : (n : Numbers) (entry exit : ℕ) → Rampable n entry exit → n.reach ≡ reach_from n.accel n.length → RampIs n entry exit (ramp_of n entry exit)
unfolding ramp_of
ramp_is n entry exit r e =
    let peak = peak_of n.cap n.reach entry exit in
    record {
      peak_is = peak_largest n.cap n.reach entry exit;
      entry_below = (peak_above n entry exit r).0;
      exit_below = (peak_above n entry exit r).1;
      up_is = up_nearest (peak - entry) n.accel r.accel_above;
      down_is = down_nearest (peak - exit) n.accel r.accel_above;
      fills = ramp_fills n entry exit r e;
    }

-- and they allow no other
pub ramp_one : {n : Numbers} {entry exit : ℕ} {r s : Ramp} → RampIs n entry exit r → RampIs n entry exit s → r ≡ s
ramp_one {n} {entry} {exit} {r} {s} h g =
    let peak : r.peak ≡ s.peak = largest_one h.peak_is g.peak_is in
    let up : r.up ≡ s.up = nearest_one (λ p q. le_antisymm) (rw (sym peak) h.up_is) g.up_is in
    let down : r.down ≡ s.down = nearest_one (λ p q a b. le_antisymm b a) (rw (sym peak) h.down_is) g.down_is in
    let cruise : r.cruise ≡ s.cruise = omega (arith, up, down, h.fills, g.fills) in
    λ i. record { peak = peak i; up = up i; cruise = cruise i; down = down i }

-- a block's own numbers meet what a ramp asks of them
pub numbers_rampable : (m : Machine) (b : Block) (entry exit : ℕ) → block_refusal b ≡ 0
    → entry ≤ block_cap m.limits b → exit ≤ block_cap m.limits b → entry ≤ exit + reach_of m b → exit ≤ entry + reach_of m b → Rampable (numbers_of m b) entry exit
unfolding numbers_of reach_from
numbers_rampable m b entry exit g entered exited falls rises =
    let length = length_below (moves_of b) (moves_below b g) in
    let accel = accel_below m b in
    record {
      accel_above = accel_above m b;
      accel_below = omega arith;
      cap_below = omega (arith, block_cap_below m.limits b g);
      reach_below = omega (arith, mul-le-mul {n₁ = 2 * accel_of m b} {m₁ = length_of b} {n₂ = 2 ^ 28} {m₂ = 2 ^ 25} (omega arith) (omega arith));
      entry_capped = entered;
      exit_capped = exited;
      falls = falls;
      rises = rises;
    }
