-- The length of a block: the largest whole number of document 01, at least the move on each axis and at most twice the greatest.
-- From arith's laws of roots.
use mathlib.Core.Path.{◌≡◌}
use Prim.Native.Nat.{ℕ, ◌+◌, ◌*◌, ◌≤◌, ◌<◌, max}
use native.Mathlib.Nat.{mul-le-mul, mul-le-mul_left, mul-mul-mul_comm, le_antisymm, mul-add}
use native.Mathlib.Omega.{arith}
use Rattle.arith.proofs.RootLaws.{root_is, root_largest}
use Rattle.arith.proofs.Squares.{square_next, square_double, square_less}
use Rattle.machine.specs.Checks.{greatest_move, moves_of}
use Rattle.machine.specs.Numbers.{unit, length_from, length_of}
use Rattle.machine.specs.Meaning.{Largest, RootFits}
use Rattle.machine.specs.declared.Axes.{Axes}
use Rattle.machine.specs.declared.Block.{Block}

-- there is one largest number only
pub largest_one : {Has : ℕ → Type 0} {q r : ℕ} → Largest Has q → Largest Has r → q ≡ r
largest_one {q = q} {r = r} h g = le_antisymm (g.most q h.has) (h.most r g.has)

-- two rules that the same numbers meet have the same largest number
pub largest_same : {Has Meets : ℕ → Type 0} {q : ℕ} → ((p : ℕ) → Has p → Meets p) → ((p : ℕ) → Meets p → Has p) → Largest Has q → Largest Meets q
largest_same {q = q} to from h = record { has = to q h.has; most = λ p g. h.most p (from p g) }

-- the length is the largest number whose square is not above the sum
pub length_largest : (m : Axes) → Largest (RootFits m) (length_from m)
unfolding length_from
length_largest m = record { has = (root_is _).not_above; most = λ p h. root_largest _ p h }

-- a part of the sum: (u × x)² ≤ u² × sum where x² ≤ sum
part_square : (u x sum : ℕ) → x * x ≤ sum → (u * x) * (u * x) ≤ u * u * sum
part_square u x sum h = rw (mul-mul-mul_comm u x u x) (mul-le-mul_left (u * u) h)

-- it is not below the move on any axis
pub length_spans : (m : Axes) → (unit * m.x ≤ length_from m) × (unit * m.y ≤ length_from m) × (unit * m.z ≤ length_from m)
length_spans m =
    let most = (length_largest m).most in (
      most (unit * m.x) (part_square unit m.x _ (omega arith)),
      most (unit * m.y) (part_square unit m.y _ (omega arith)),
      most (unit * m.z) (part_square unit m.z _ (omega arith)),
    )

-- a number whose square is at most u² times three squares of numbers up to g is at most 2 × u × g
within_double : (n u g x y z : ℕ) → x ≤ g → y ≤ g → z ≤ g → n * n ≤ u * u * (x * x + y * y + z * z) → n ≤ 2 * (u * g)
within_double n u g x y z hx hy hz h =
    let three : u * u * (x * x + y * y + z * z) ≤ u * u * (3 * (g * g)) =
    mul-le-mul_left (u * u) (omega (arith, mul-le-mul hx hx, mul-le-mul hy hy, mul-le-mul hz hz)) in
    let four : u * u * (3 * (g * g)) ≤ 4 * ((u * g) * (u * g)) = rw (mul-mul-mul_comm u g u g) (omega (arith, mul-add (u * u) (2 * (g * g)) (g * g), mul-add (u * u) (g * g) (g * g))) in
    let less : n < 2 * (u * g) + 1 = square_less (omega (arith, square_next (2 * (u * g)), square_double (u * g))) in
    omega arith

-- nor above twice the greatest
pub length_within : (b : Block) → length_of b ≤ 2 * (unit * greatest_move b)
unfolding greatest_move
length_within b =
    let m = moves_of b in
    within_double (length_of b) unit (max m.x (max m.y m.z)) m.x m.y m.z (omega arith) (omega arith) (omega arith) (length_largest m).has
