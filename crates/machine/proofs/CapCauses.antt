-- The junction cap is the least of the junction's three caps, and a corner as a number beside the block caps tells the corner cap wherever it can
-- hold a speed. From the laws of the chord rule.
use mathlib.Core.Path.{◌≡◌, refl, sym, ap, ◌∙◌}
use mathlib.Core.Bool.{cond}
use Prim.Native.Nat.{ℕ, zero, suc, ◌+◌, ◌≤◌, ◌<◌, min}
use native.Mathlib.Omega.{arith}
use borrow.Author.Tests.{ne_eqb}
use lib.Dec.{eqb, eqb-suc-zero}
use Rattle.arith.proofs.Tests.{same_test}
use Rattle.machine.specs.Numbers.{OpenCap, none, up_to, speed_of, square_of, chord_cap, block_cap_from, block_cap, corner_cap, corner_beside, under_cap, junction_cap, numbers_of}
use Rattle.machine.specs.Caps.{cap_is, chord_of, lower_cap, caps_between, least_cap, corner_between}
use Rattle.machine.specs.declared.Limits.{Limits}
use Rattle.machine.specs.declared.Machine.{Machine}
use Rattle.machine.specs.declared.Block.{Block}
use Rattle.machine.proofs.CapLaws.{chord_capped, square_capped}

-- the block cap is v squared under what the chord rule allows
pub block_under_chord : (l : Limits) (b : Block) → 0 < l.tick → block_cap l b ≡ under_cap (chord_of l b) (square_of l b)
block_under_chord l b h = go b.radius
  where
    go : (radius : ℕ) → block_cap_from l radius (speed_of l b) ≡ under_cap (cond (eqb radius 0) none (up_to (chord_cap l radius))) (square_of l b)
    go zero = square_capped l (speed_of l b)
    go (suc r) = rw (eqb-suc-zero r) (chord_capped l (suc r) (speed_of l b) h (omega arith))

-- two caps may be taken in either order,
under_swap : (c d : OpenCap) (cap : ℕ) → under_cap c (under_cap d cap) ≡ under_cap d (under_cap c cap)
under_swap none d cap = refl
under_swap (up_to q) none cap = refl
under_swap (up_to q) (up_to p) cap = omega arith

-- and the lower of two is taken where each is
lower_each : (a b : OpenCap) (sa sb : ℕ) → under_cap (lower_cap a b) (min sa sb) ≡ min (under_cap a sa) (under_cap b sb)
lower_each none none sa sb = refl
lower_each none (up_to b) sa sb = omega arith
lower_each (up_to a) none sa sb = omega arith
lower_each (up_to a) (up_to b) sa sb = omega arith

-- the junction cap is the least of the three
pub caps_least : (l : Limits) (a b : Block) → 0 < l.tick → least_cap (caps_between l a b) ≡ junction_cap l a b
unfolding least_cap caps_between junction_cap
caps_least l a b h =
    under_swap (lower_cap (chord_of l a) (chord_of l b)) (corner_cap l a b) (min (square_of l a) (square_of l b))
    ∙ ap (under_cap (corner_cap l a b)) (lower_each (chord_of l a) (chord_of l b) (square_of l a) (square_of l b))
    ∙ (λ i. under_cap (corner_cap l a b) (min (sym (block_under_chord l a h) i) (sym (block_under_chord l b h) i)))

-- it is also the smaller of the block caps and the corner beside them
beside : (corner : OpenCap) (cap : ℕ) → min cap (under_cap corner (cap + 1)) ≡ under_cap corner cap
beside none cap = omega arith
beside (up_to q) cap = omega arith

pub beside_least : (l : Limits) (a b : Block) → min (min (block_cap l a) (block_cap l b)) (corner_between l a b) ≡ junction_cap l a b
unfolding corner_between junction_cap
beside_least l a b = beside (corner_cap l a b) (min (block_cap l a) (block_cap l b))

-- the corner beside two blocks' numbers
pub corner_from_numbers : (m : Machine) (a b : Block) → corner_beside m.limits.jump a (numbers_of m a) b (numbers_of m b) ≡ corner_between m.limits a b
unfolding corner_beside corner_between corner_cap numbers_of
corner_from_numbers m a b = refl

-- a number beside the block caps equals a speed within them exactly where the corner cap does
corner_told : (corner : OpenCap) (cap p : ℕ) → p ≤ cap → eqb (under_cap corner (cap + 1)) p ≡ cap_is corner p
corner_told none cap p h = ne_eqb (cap + 1) p (λ e. omega arith)
corner_told (up_to q) cap p h = same_test (min (cap + 1) q) q p (λ e. omega arith) (λ e. omega arith)

pub corner_shown : (l : Limits) (a b : Block) (p : ℕ) → p ≤ min (block_cap l a) (block_cap l b) → eqb (corner_between l a b) p ≡ cap_is (corner_cap l a b) p
unfolding corner_between
corner_shown l a b p h = corner_told (corner_cap l a b) (min (block_cap l a) (block_cap l b)) p h
