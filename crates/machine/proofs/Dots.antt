-- The products of two blocks' moves and their sum, as the code works them out. From arith's laws of signed numbers.
use mathlib.Core.Path.{◌≡◌, refl}
use Prim.Native.Nat.{ℕ, zero, suc, ◌+◌, ◌-◌, ◌*◌, ◌^◌, ◌≤◌, ◌<◌}
use native.Mathlib.Nat.{mul-le-mul}
use native.Mathlib.Omega.{arith}
use lib.IntN.{ℤ, pos, nat_abs, ◌+ℤ◌, ◌*ℤ◌}
use Rattle.arith.specs.Quotient.{capped_quotient}
use Rattle.arith.proofs.QuotientLaws.{quotient_positive}
use Rattle.machine.specs.Checks.{moves_of}
use Rattle.machine.specs.Numbers.{AxesBelow, unit, dot_of, turn_from, corner_from, under_cap}
use Rattle.machine.specs.declared.Block.{Block}
use Rattle.arith.proofs.SignedLaws.{read_back, small_back, times_back, plus_back, nat_abs_product, nat_abs_sum, gap_below}

-- the product of two moves stays below 2^42
pub moves_product : (x y : ℤ) → nat_abs x < 2 ^ 21 → nat_abs y < 2 ^ 21 → nat_abs x * nat_abs y < 2 ^ 42
moves_product x y h g = omega (arith, mul-le-mul {n₁ = nat_abs x} {m₁ = nat_abs y} {n₂ = 2 ^ 21 - 1} {m₂ = 2 ^ 21 - 1} (omega arith) (omega arith))

-- so does that of the moves as the code passes them, and a sum of terms fits
pub read_product : (x y : ℤ) → nat_abs x < 2 ^ 21 → nat_abs y < 2 ^ 21 → nat_abs (read_back x) * nat_abs (read_back y) < 2 ^ 63
read_product x y h g = rw (small_back x (omega arith), small_back y (omega arith)) (omega (arith, moves_product x y h g))

pub read_sum : (s t : ℤ) → nat_abs s < 2 ^ 60 → nat_abs t < 2 ^ 60 → nat_abs (read_back s) + nat_abs (read_back t) < 2 ^ 63
read_sum s t h g = rw (small_back s (omega arith), small_back t (omega arith)) (omega arith)

-- what the code has for it
pub move_term : (r x y : ℤ) → nat_abs x < 2 ^ 21 → nat_abs y < 2 ^ 21 → r ≡ read_back x *ℤ read_back y → (r ≡ x *ℤ y) × (nat_abs r < 2 ^ 42)
move_term r x y h g e =
    let same = times_back r x y (omega arith) (omega arith) e in
    (same, rw same (rw nat_abs_product (moves_product x y h g)))

-- and for a sum of terms
pub move_sum : (r s t : ℤ) → nat_abs s < 2 ^ 60 → nat_abs t < 2 ^ 60 → r ≡ read_back s +ℤ read_back t → (r ≡ s +ℤ t) × (nat_abs r ≤ nat_abs s + nat_abs t)
move_sum r s t h g e =
    let same = plus_back r s t (omega arith) (omega arith) e in
    (same, rw same (nat_abs_sum s t))

-- the sum of the products stays below 2^44
pub dot_below : (a b : Block) → AxesBelow (2 ^ 21) (moves_of a) → AxesBelow (2 ^ 21) (moves_of b) → nat_abs (dot_of a b) < 2 ^ 44
dot_below a b h g =
    omega (
      arith,
      nat_abs_sum ((a.x *ℤ b.x) +ℤ (a.y *ℤ b.y)) (a.z *ℤ b.z),
      nat_abs_sum (a.x *ℤ b.x) (a.y *ℤ b.y),
      nat_abs_product a.x b.x,
      nat_abs_product a.y b.y,
      nat_abs_product a.z b.z,
      moves_product a.x b.x h.0 g.0,
      moves_product a.y b.y h.1 g.1,
      moves_product a.z b.z h.2 g.2,
    )

-- the same in the parts of a µm in which lengths are counted
pub scaled_dot_below : (a b : Block) → AxesBelow (2 ^ 21) (moves_of a) → AxesBelow (2 ^ 21) (moves_of b) → nat_abs (pos (unit * unit) *ℤ dot_of a b) < 2 ^ 60
scaled_dot_below a b h g = omega (arith, nat_abs_product (pos (unit * unit)) (dot_of a b), dot_below a b h g)

-- the turn stays below 2^62
pub turn_below : (product : ℕ) (a b : Block) → product < 2 ^ 60 → AxesBelow (2 ^ 21) (moves_of a) → AxesBelow (2 ^ 21) (moves_of b) → turn_from product a b < 2 ^ 62
unfolding turn_from
turn_below product a b p h g = omega (arith, gap_below product (pos (unit * unit) *ℤ dot_of a b), scaled_dot_below a b h g)

-- a cap under the corner cap is a capped quotient
pub corner_quotient : (cap jump product turn : ℕ) → capped_quotient cap (jump * jump * product) (2 * turn) ≡ under_cap (corner_from jump product turn) cap
unfolding corner_from capped_quotient
corner_quotient cap jump product zero = refl
corner_quotient cap jump product (suc turn) = quotient_positive cap (jump * jump * product) (2 * suc turn) (omega arith)

-- without a turn it is the cap itself
pub corner_straight : (cap jump product turn : ℕ) → turn ≡ 0 → under_cap (corner_from jump product turn) cap ≡ cap
unfolding corner_from
corner_straight cap jump product turn e = rw e
