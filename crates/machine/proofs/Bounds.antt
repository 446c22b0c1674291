-- How large a block's numbers are. From the ranges that the checks allow.
use mathlib.Core.Path.{◌≡◌}
use mathlib.Core.Bool.{true, false, ◌&&◌}
use Prim.Native.Nat.{ℕ, ◌+◌, ◌-◌, ◌*◌, ◌^◌, ◌≤◌, ◌<◌}
use native.Mathlib.Nat.{mul-le-mul}
use native.Mathlib.Omega.{arith}
use borrow.Author.Tests.{leb-true, ltb-false, eqb-false, not-false}
use lib.Dec.{eqb, lit<}
use Rattle.display.proofs.Answers.{next_check, picked}
use Rattle.arith.proofs.RootLaws.{root_is}
use Rattle.arith.proofs.Squares.{square_less}
use Rattle.arith.proofs.Tests.{both}
use Rattle.machine.specs.Ranges.{most_accel, most_speed, most_jump, most_chord, least_tick, most_tick, most_move, most_feed, most_radius, most_mark}
use Rattle.machine.specs.Checks.{within, axes_within, limits_within, limits_refusal, moves_of, greatest_move, block_refusal}
use Rattle.machine.specs.Numbers.{AxesBelow, LimitsBelow, unit, length_from}
use Rattle.machine.specs.declared.Axes.{Axes}
use Rattle.machine.specs.declared.Limits.{Limits}
use Rattle.machine.specs.declared.Block.{Block}

-- what a block that passes 2 to 6 has
pub record InRange (b : Block) : Type 0 where
  pub moves : 0 < greatest_move b
  pub short : greatest_move b ≤ most_move
  pub feed_above : 1 ≤ b.feed
  pub feed_below : b.feed ≤ most_feed
  pub radius_below : b.radius ≤ most_radius
  pub mark_below : b.mark ≤ most_mark

above : (n : ℕ) → eqb n 0 ≡ false → 0 < n
above n e = omega (arith, eqb-false n 0 e)

pub in_range : (b : Block) → block_refusal b ≡ 0 → InRange b
unfolding block_refusal
in_range b e =
    let still = next_check _ (lit< tt) e in
    let long = next_check _ (lit< tt) still.1 in
    let fed = next_check _ (lit< tt) long.1 in
    let wide = next_check _ (lit< tt) fed.1 in
    let marked = next_check _ (lit< tt) wide.1 in
    let feeds = both _ _ (not-false _ fed.0) in
    record {
      moves = above (greatest_move b) still.0;
      short = ltb-false most_move (greatest_move b) long.0;
      feed_above = leb-true 1 b.feed feeds.0;
      feed_below = leb-true b.feed most_feed feeds.1;
      radius_below = ltb-false most_radius b.radius wide.0;
      mark_below = ltb-false most_mark b.mark marked.0;
    }

-- its moves are below 2^20
pub moves_below : (b : Block) → block_refusal b ≡ 0 → AxesBelow (2 ^ 20) (moves_of b)
unfolding greatest_move
moves_below b e = let r = (in_range b e).short in (omega arith, omega arith, omega arith)

-- the square of a move below 2^20
pub square_below : (x : ℕ) → x < 2 ^ 20 → x * x < 2 ^ 40
square_below x h = omega (arith, mul-le-mul {n₁ = x} {m₁ = x} {n₂ = 2 ^ 20 - 1} {m₂ = 2 ^ 20 - 1} (omega arith) (omega arith))

-- the three squares
pub squares_below : (m : Axes) → AxesBelow (2 ^ 20) m → (m.x * m.x < 2 ^ 40) × (m.y * m.y < 2 ^ 40) × (m.z * m.z < 2 ^ 40)
squares_below m h = (square_below m.x h.0, square_below m.y h.1, square_below m.z h.2)

-- a length stays below 2^25
pub length_below : (m : Axes) → AxesBelow (2 ^ 20) m → length_from m < 2 ^ 25
unfolding length_from
length_below m h =
    square_less {a = length_from m} {b = 2 ^ 25}
    (omega (arith, (root_is (unit * unit * (m.x * m.x + m.y * m.y + m.z * m.z))).not_above, squares_below m h))

-- so does that of a block that passes
pub short : (b : Block) → block_refusal b ≡ 0 → length_from (moves_of b) < 2 ^ 25
short b e = length_below (moves_of b) (moves_below b e)

-- the values of the three axes are from 1 to `high`
pub record AxesIn (high : ℕ) (a : Axes) : Type 0 where
  pub x_in : (1 ≤ a.x) × (a.x ≤ high)
  pub y_in : (1 ≤ a.y) × (a.y ≤ high)
  pub z_in : (1 ≤ a.z) × (a.z ≤ high)

-- what limits that pass 1 have
pub record LimitsIn (l : Limits) : Type 0 where
  pub accel_in : AxesIn most_accel l.accel
  pub speed_in : AxesIn most_speed l.speed
  pub jump_in : (1 ≤ l.jump) × (l.jump ≤ most_jump)
  pub chord_in : (1 ≤ l.chord) × (l.chord ≤ most_chord)
  pub tick_in : (least_tick ≤ l.tick) × (l.tick ≤ most_tick)

value_in_lem : (low high value : ℕ) → within low high value ≡ true → (low ≤ value) × (value ≤ high)
value_in_lem low high value e = let h = both _ _ e in (leb-true low value h.0, leb-true value high h.1)

axes_in : (high : ℕ) (a : Axes) → axes_within 1 high a ≡ true → AxesIn high a
axes_in high a e =
    let h = both (within 1 high a.x && within 1 high a.y) (within 1 high a.z) e in
    let g = both (within 1 high a.x) (within 1 high a.y) h.0 in
    record { x_in = value_in_lem _ _ _ g.0; y_in = value_in_lem _ _ _ g.1; z_in = value_in_lem _ _ _ h.1 }

pub limits_in : (l : Limits) → limits_refusal l ≡ 0 → LimitsIn l
unfolding limits_refusal limits_within
limits_in l e =
    let all = both _ _ (picked _ (lit< tt) e) in
    let axes = both _ _ all.0 in
    let rest = both _ _ all.1 in
    let first = both _ _ rest.0 in
    record {
      accel_in = axes_in most_accel l.accel axes.0;
      speed_in = axes_in most_speed l.speed axes.1;
      jump_in = value_in_lem 1 most_jump l.jump first.0;
      chord_in = value_in_lem 1 most_chord l.chord first.1;
      tick_in = value_in_lem least_tick most_tick l.tick rest.1;
    }

axes_below : (high : ℕ) (a : Axes) → high < 2 ^ 32 → AxesIn high a → AxesBelow (2 ^ 32) a
axes_below high a h i = (omega (arith, i.x_in.1), omega (arith, i.y_in.1), omega (arith, i.z_in.1))

-- they are below 2^32
pub limits_below : (l : Limits) → limits_refusal l ≡ 0 → LimitsBelow l
limits_below l e =
    let i = limits_in l e in
    (axes_below most_accel l.accel (lit< tt) i.accel_in, axes_below most_speed l.speed (lit< tt) i.speed_in, omega (arith, i.jump_in.1), omega (arith, i.chord_in.1), omega (arith, i.tick_in.1))
