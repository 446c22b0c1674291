-- `machine::measure::gauge` meets its contract, from what its parts ensure and how large they are.
use mathlib.Core.Path.{◌≡◌, ap, ◌∙◌}
use Prim.Native.Nat.{◌*◌, ◌/◌, ◌^◌, ◌≤◌, ◌<◌, max}
use native.Mathlib.Omega.{arith}
use lib.Dec.{lit<}
use Rattle.arith.proofs.Division.{half_product}
use Rattle.machine.specs.Ranges.{most_accel, most_feed}
use Rattle.machine.specs.Numbers.{AxesBelow, unit, length_from, length_of, each_axis, axis_accel, accel_of, reach_from, block_cap_from, numbers_of}
use Rattle.machine.specs.Torque.{torque_percent}
use Rattle.machine.proofs.AxisLaws.{speed_largest}
use Rattle.machine.proofs.Bounds.{in_range, moves_below, length_below}
use Rattle.machine.proofs.Limited.{each_below}
use Rattle.machine.proofs.measure.gauge.Goals as goal
use Rattle.machine.proofs.measure.gauge.Goals.{After-each_axis-most, After-length_of-length, After-moves_of-moves, After-speed_of-speed}

small_moves : (c : After-moves_of-moves) → AxesBelow (2 ^ 20) c.moves_of-moves.result
small_moves c = let s = c.before.before in rw c.moves_of-moves.ensures (moves_below s.args.b s.requires.1)

pub length_of-length-requires : goal.length_of-length-requires
length_of-length-requires c = small_moves c

small_length : (c : After-length_of-length) → c.length_of-length.result < 2 ^ 25
small_length c = rw c.length_of-length.ensures (length_below c.moves_of-moves.result (small_moves c.before))

length_is : (c : After-length_of-length) → c.length_of-length.result ≡ length_of c.args.b
length_is c = c.length_of-length.ensures ∙ ap length_from c.moves_of-moves.ensures

small_speed : (c : After-speed_of-speed) → c.speed_of-speed.result ≤ most_feed
small_speed c =
    let s = c.before.before.before.before in
    omega (arith, c.speed_of-speed.ensures, (speed_largest s.args.m.limits s.args.b).has.0, (in_range s.args.b s.requires.1).feed_below)

pub each_axis-most-requires : goal.each_axis-most-requires
each_axis-most-requires c =
    (lit< tt, omega (arith, small_length c.before.before), c.requires.0.0, small_moves c.before.before.before)

small_accel : (c : After-each_axis-most) → c.each_axis-most.result ≤ 2 * most_accel
small_accel c =
    let n = c.before.before.before in
    rw c.each_axis-most.ensures (each_below (2 * most_accel) n.args.m.limits.accel n.length_of-length.result n.moves_of-moves.result)

pub accel_of-accel-requires : goal.accel_of-accel-requires
accel_of-accel-requires c = (small_accel c, small_speed c.before.before)

pub overflow_mul-result : goal.overflow_mul-result
overflow_mul-result c =
    record { fits = omega (arith, half_product {x = c.speed_of-speed.result} {y = c.speed_of-speed.result} (omega (arith, small_speed c.before.before.before)) (omega (arith, small_speed c.before.before.before))) }

pub overflow_mul-result-3 : goal.overflow_mul-result-3
overflow_mul-result-3 c =
    record { fits = omega (arith, half_product {x = 2 * c.accel_of-accel.result} {y = c.length_of-length.result} (omega (arith, c.accel_of-accel.ensures.1)) (omega (arith, small_length c.before.before.before.before))) }

pub block_cap-requires : goal.block_cap-requires
block_cap-requires c =
    (c.requires.0, (in_range c.args.b c.requires.1).radius_below, small_speed c.before.before.before)

pub returns : goal.returns
unfolding numbers_of axis_accel accel_of reach_from
returns c =
    let l = c.args.m.limits in
    let b = c.args.b in
    let moves = c.moves_of-moves.ensures in
    let len = length_is c.before.before.before.before.before in
    let speed = c.speed_of-speed.ensures in
    let most = c.each_axis-most.ensures ∙ (λ i. each_axis (2 * most_accel) l.accel (len i) (moves i)) in
    let accel = c.accel_of-accel.ensures.0 ∙ (λ i. max 1 (most i * torque_percent c.args.m.torque (speed i) / 100)) in
    λ i.
    record {
      square = speed i * speed i;
      numbers = record { length = len i; accel = accel i; reach = 2 * accel i * len i / unit; cap = (c.block_cap.ensures ∙ ap (block_cap_from l b.radius) speed) i };
    }
