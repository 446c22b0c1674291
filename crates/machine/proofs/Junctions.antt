-- The junction cap from two blocks' numbers. From the ranges of what passes the checks.
use mathlib.Core.Path.{◌≡◌, refl}
use Prim.Native.Nat.{◌^◌}
use native.Mathlib.Omega.{arith}
use Rattle.machine.specs.Checks.{moves_of, block_refusal}
use Rattle.machine.specs.Numbers.{AxesBelow, LimitsBelow, numbers_of, corner_cap, junction_cap, junction_from, Joinable}
use Rattle.machine.specs.declared.Machine.{Machine}
use Rattle.machine.specs.declared.Block.{Block}
use Rattle.machine.proofs.Bounds.{moves_below, short}

-- of a machine's numbers it is the junction cap
pub junction_from_numbers : (m : Machine) (a b : Block) → junction_from m.limits.jump a (numbers_of m a) b (numbers_of m b) ≡ junction_cap m.limits a b
unfolding junction_from junction_cap corner_cap numbers_of
junction_from_numbers m a b = refl

-- the moves of a block that passes 2 to 6 fit
pub short_moves : (b : Block) → block_refusal b ≡ 0 → AxesBelow (2 ^ 21) (moves_of b)
short_moves b e = let h = moves_below b e in (omega arith, omega arith, omega arith)

-- so do the numbers of two that pass
pub numbers_joinable : (m : Machine) (a b : Block) → LimitsBelow m.limits → block_refusal a ≡ 0 → block_refusal b ≡ 0
    → Joinable m.limits.jump a (numbers_of m a) b (numbers_of m b)
unfolding numbers_of
numbers_joinable m a b h p q =
    record {
      jump_below = h.2;
      first_length = omega (arith, short a p);
      second_length = omega (arith, short b q);
      first_moves = short_moves a p;
      second_moves = short_moves b q;
    }
