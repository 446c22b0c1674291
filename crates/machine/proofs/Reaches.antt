-- How large the reach of a block that passes is. From the laws of its length and acceleration.
use mathlib.Core.Path.{◌≡◌}
use Prim.Native.Nat.{◌*◌, ◌^◌, ◌≤◌, ◌<◌}
use native.Mathlib.Nat.{mul-le-mul}
use native.Mathlib.Omega.{arith}
use Rattle.machine.specs.Checks.{block_refusal, greatest_move, moves_of}
use Rattle.machine.specs.Numbers.{accel_of, length_of, reach_from, reach_of}
use Rattle.machine.specs.declared.Block.{Block}
use Rattle.machine.specs.declared.Machine.{Machine}
use Rattle.machine.proofs.AxisLaws.{accel_above, accel_below}
use Rattle.machine.proofs.Bounds.{in_range, short}
use Rattle.machine.proofs.LengthLaws.{length_spans}

-- a block that moves has a length
pub length_above : (b : Block) → block_refusal b ≡ 0 → 1 ≤ length_of b
unfolding greatest_move
length_above b e = omega (arith, (in_range b e).moves, length_spans (moves_of b))

-- its reach is above 0,
pub reach_above : (m : Machine) (b : Block) → block_refusal b ≡ 0 → 0 < reach_of m b
unfolding reach_from
reach_above m b e = omega (arith, mul-le-mul {n₁ = 2} {m₁ = 1} {n₂ = 2 * accel_of m b} {m₂ = length_of b} (omega (arith, accel_above m b)) (length_above b e))

-- and at most 2^53
pub reach_below : (m : Machine) (b : Block) → block_refusal b ≡ 0 → reach_of m b ≤ 2 ^ 53
unfolding reach_from
reach_below m b e = omega (arith, mul-le-mul {n₁ = 2 * accel_of m b} {m₁ = length_of b} {n₂ = 2 ^ 28} {m₂ = 2 ^ 25} (omega (arith, accel_below m b)) (omega (arith, short b e)))
