-- The chord rule's cap, the block cap, the corner cap and the junction cap are the largest numbers of document 01 and of Q-4. From the
-- laws of division and of the capped quotient.
use mathlib.Core.Path.{◌≡◌, refl, sym, ap, subst}
use mathlib.Core.Bool.{Bool, true, false, cond}
use Prim.Native.Nat.{ℕ, zero, suc, ◌+◌, ◌-◌, ◌*◌, ◌/◌, ◌≤◌, ◌<◌, min}
use native.Mathlib.Nat.{le_trans, le_refl, le-min, min-le_left, min-le_right, mul-pos, mul-le-mul, mul-le-mul_left, mul-le-mul_right, le-div_iff_mul-le, add-sub_of_le}
use native.Mathlib.Omega.{arith}
use borrow.Author.Tests.{ne_eqb}
use lib.Dec.{eqb, le→leb}
use lib.IntN.{ℤ, pos, negsuc, ◌-ℤ◌, ◌*ℤ◌}
use lib.Signed.{◌≤ℤ◌, le_z_yes}
use Rattle.arith.specs.Signed.{gap_of, or_zero}
use Rattle.arith.specs.Quotient.{capped_quotient}
use Rattle.arith.proofs.QuotientLaws.{quotient_is, quotient_positive}
use Rattle.arith.proofs.SignedLaws.{gap_positive}
use Rattle.machine.specs.Ranges.{most_feed}
use Rattle.machine.specs.Checks.{block_refusal}
use Rattle.machine.specs.Numbers.{OpenCap, none, up_to, unit, length_of, speed_of, tolerance_at, chord_factor, chord_cap, block_cap_from, block_cap, dot_of, turn_from, corner_from, corner_cap, under_cap, junction_cap}
use Rattle.machine.specs.Meaning.{Largest, ChordFits, ChordWithin, CornerIs, CapFits, JunctionFits}
use Rattle.machine.specs.declared.Limits.{Limits}
use Rattle.machine.specs.declared.Block.{Block}
use Rattle.machine.proofs.Bounds.{in_range}
use Rattle.machine.proofs.LengthLaws.{largest_same}
use Rattle.machine.proofs.AxisLaws.{speed_largest}

-- a quotient is the largest number whose product with the divisor is not above n
pub quotient_largest : (n d : ℕ) → 0 < d → Largest (λ q. q * d ≤ n) (n / d)
quotient_largest n d h = record { has = (le-div_iff_mul-le h).0 (le_refl (n / d)); most = λ p g. (le-div_iff_mul-le h).1 g }

-- to be within e of the circle is to be within E of it: R - e is R - E, or 0 where E is R or more
pub within_tolerance : (l : Limits) (radius : ℕ) → radius - tolerance_at l radius ≡ radius - l.chord
within_tolerance l radius = omega arith

-- the chord rule's subtraction is never cut off: e × e is not above e × R
pub factor_whole : (l : Limits) (radius : ℕ) → let e = tolerance_at l radius in chord_factor l radius + 4 * e * e ≡ 8 * e * radius
unfolding chord_factor
factor_whole l radius = omega (arith, mul-le-mul_left (tolerance_at l radius) (min-le_right l.chord radius))

-- the chord rule's cap is the largest number of the rule
pub chord_largest : (l : Limits) (radius : ℕ) → 0 < l.tick → Largest (ChordFits l radius) (chord_cap l radius)
unfolding chord_cap
chord_largest l radius h =
    largest_same (λ p g. omega (arith, g, factor_whole l radius)) (λ p g. omega (arith, g, factor_whole l radius))
    (quotient_largest _ (l.tick * l.tick) (mul-pos h h))

-- (R - e)² + 2 × e × R is R² + e²
apart_square : (e radius : ℕ) → e ≤ radius → (radius - e) * (radius - e) + 2 * (e * radius) ≡ radius * radius + e * e
apart_square e radius h = subst (λ (r : ℕ). (radius - e) * (radius - e) + 2 * (e * r) ≡ r * r + e * e) (add-sub_of_le h) (omega arith)

-- the rule is met exactly where the middle of a tick's chord stays within e of the circle
pub chord_error : (l : Limits) (radius q : ℕ) → (ChordFits l radius q → ChordWithin l radius q) × (ChordWithin l radius q → ChordFits l radius q)
chord_error l radius q =
    let apart = apart_square (tolerance_at l radius) radius (min-le_right l.chord radius) in
    (λ h. omega (arith, h, apart), λ h. omega (arith, h, apart))

-- so the chord rule's cap is the largest squared speed whose chord does
pub chord_within_largest : (l : Limits) (radius : ℕ) → 0 < l.tick → Largest (ChordWithin l radius) (chord_cap l radius)
chord_within_largest l radius h = largest_same (λ p. (chord_error l radius p).0) (λ p. (chord_error l radius p).1) (chord_largest l radius h)

-- with a radius the block cap is the smaller of v squared and the chord rule's cap
pub chord_capped : (l : Limits) (radius speed : ℕ) → 0 < l.tick → 0 < radius → block_cap_from l radius speed ≡ min (speed * speed) (chord_cap l radius)
unfolding block_cap_from chord_cap
chord_capped l radius speed h g = rw (ne_eqb radius 0 (λ e. omega arith)) (quotient_positive (speed * speed) _ (l.tick * l.tick) (mul-pos h h))

-- and at every squared speed up to it the middle of a tick's chord stays within e of the circle
pub chord_kept : (l : Limits) (b : Block) (q : ℕ) → 0 < l.tick → 0 < b.radius → q ≤ block_cap l b → ChordWithin l b.radius q
chord_kept l b q h g below =
    let capped : q ≤ min (speed_of l b * speed_of l b) (chord_cap l b.radius) = subst (λ (cap : ℕ). q ≤ cap) (chord_capped l b.radius (speed_of l b) h g) below in
    let product = mul-le-mul_right (l.tick * l.tick) (le_trans capped (min-le_right _ _)) in
    omega (arith, product, (chord_within_largest l b.radius h).has)

-- without a radius it is v squared
pub square_capped : (l : Limits) (speed : ℕ) → block_cap_from l 0 speed ≡ speed * speed
unfolding block_cap_from
square_capped l speed = refl

-- it is never above v squared
pub cap_in_square : (l : Limits) (radius speed : ℕ) → block_cap_from l radius speed ≤ speed * speed
unfolding block_cap_from
cap_in_square l radius speed = go (eqb radius 0)
  where
    go : (t : Bool) → cond t (speed * speed) (capped_quotient (speed * speed) (chord_factor l radius * 1_000_000_000_000) (l.tick * l.tick)) ≤ speed * speed
    go true = le_refl _
    go false = (quotient_is (speed * speed) _ (l.tick * l.tick)).not_above_cap

-- and never above the square of the greatest feed
pub block_cap_below : (l : Limits) (b : Block) → block_refusal b ≡ 0 → block_cap l b ≤ 1_000_000_000_000
block_cap_below l b g =
    let v : speed_of l b ≤ most_feed = le_trans (speed_largest l b).has.0 (in_range b g).feed_below in
    le_trans (cap_in_square l b.radius (speed_of l b)) (mul-le-mul v v)

-- where the gap is 0, S ≥ P
gap_zero : (p : ℕ) (s : ℤ) → gap_of p s ≡ 0 → pos p ≤ℤ s
gap_zero p (pos n) e = le_z_yes (le→leb p n (omega (arith, gap_positive p n)))
gap_zero p (negsuc n) e = absurd (omega arith)

-- the corner rule by the difference P - S
corner_by : (jump p : ℕ) (s difference : ℤ) → difference ≡ pos p -ℤ s → CornerIs jump p s (corner_from jump p (or_zero difference))
unfolding corner_from
corner_by jump p s (pos zero) e = gap_zero p s (sym (ap or_zero e))
corner_by jump p s (pos (suc turn)) e = (suc turn, e, omega arith, quotient_largest _ (2 * suc turn) (omega arith))
corner_by jump p s (negsuc n) e = gap_zero p s (sym (ap or_zero e))

-- Corner cap: none where S ≥ P, otherwise the largest number of the rule
pub corner_is : (l : Limits) (a b : Block) → CornerIs l.jump (length_of a * length_of b) (pos (unit * unit) *ℤ dot_of a b) (corner_cap l a b)
unfolding corner_cap turn_from
corner_is l a b = corner_by l.jump (length_of a * length_of b) (pos (unit * unit) *ℤ dot_of a b) _ refl

-- a cap under a corner cap is the largest number not above either
under_largest : (c : OpenCap) (cap : ℕ) → Largest (λ q. (q ≤ cap) × CapFits c q) (under_cap c cap)
under_largest none cap = record { has = (le_refl cap, omega arith); most = λ p h. h.0 }
under_largest (up_to q) cap = record { has = (min-le_left cap q, min-le_right cap q); most = λ p h. le-min h.0 h.1 }

-- Junction cap: the largest number not above the two block caps and the corner cap
pub junction_largest : (l : Limits) (a b : Block) → Largest (JunctionFits l a b) (junction_cap l a b)
unfolding junction_cap
junction_largest l a b =
    let under = under_largest (corner_cap l a b) (min (block_cap l a) (block_cap l b)) in
    record {
      has = (le_trans under.has.0 (min-le_left _ _), le_trans under.has.0 (min-le_right _ _), under.has.1);
      most = λ p h. under.most p (le-min h.0 h.1, h.2);
    }
