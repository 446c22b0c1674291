-- Block speed and acceleration are the largest numbers of document 01, and no axis limit is broken. From arith's laws of the
-- capped quotient and the laws of the length.
use mathlib.Core.Path.{◌≡◌, sym, subst}
use Prim.Native.Nat.{ℕ, ◌*◌, ◌/◌, ◌^◌, ◌≤◌, ◌<◌, max}
use native.Mathlib.Nat.{le_trans, le_of_lt, lt_of_not-le, mul-le-mul, mul-le-mul_left, mul-le-mul_right, le-max_left, max-le, max-eq_left, max-eq_right, mul_comm, mul_left_comm, mul_assoc, mul-pos, le_of_mul-le-mul_right, div-le_of_le-mul}
use native.Mathlib.Decide.{dec_le}
use native.Mathlib.Omega.{arith}
use lib.Dec.{lit<}
use Rattle.arith.proofs.QuotientLaws.{quotient_is}
use Rattle.machine.specs.Ranges.{most_accel, most_speed}
use Rattle.machine.specs.Checks.{greatest_move, moves_of, block_refusal, limits_refusal}
use Rattle.machine.specs.Numbers.{unit, length_from, length_of, axis_limit, each_axis, speed_of, axis_accel, accel_of}
use Rattle.machine.specs.Torque.{torque_percent}
use Rattle.machine.specs.Meaning.{Largest, Allowed, SpeedFits, AccelFits}
use Rattle.machine.specs.declared.Axes.{Axes}
use Rattle.machine.specs.declared.Limits.{Limits}
use Rattle.machine.specs.declared.Machine.{Machine}
use Rattle.machine.specs.declared.Block.{Block}
use Rattle.machine.proofs.Bounds.{AxesIn, in_range, limits_in}
use Rattle.machine.proofs.Limited.{each_below}
use Rattle.machine.proofs.LengthLaws.{length_spans, length_within}

-- a rate below one that is allowed is allowed
pub allowed_below : (limits : Axes) (length : ℕ) (m : Axes) {r s : ℕ} → r ≤ s → Allowed limits length m s → Allowed limits length m r
allowed_below limits length m h a =
    record {
      on_x = le_trans (mul-le-mul_right (unit * m.x) h) a.on_x;
      on_y = le_trans (mul-le-mul_right (unit * m.y) h) a.on_y;
      on_z = le_trans (mul-le-mul_right (unit * m.z) h) a.on_z;
    }

-- the three quotients in turn give the largest number up to the cap that every axis allows
pub each_largest : (cap : ℕ) (limits : Axes) (length : ℕ) (m : Axes) → Largest (λ n. (n ≤ cap) × Allowed limits length m n) (each_axis cap limits length m)
unfolding each_axis axis_limit
each_largest cap limits length m =
    let x = quotient_is cap (limits.x * length) (unit * m.x) in
    let y = quotient_is (axis_limit cap limits.x length m.x) (limits.y * length) (unit * m.y) in
    let z = quotient_is (axis_limit (axis_limit cap limits.x length m.x) limits.y length m.y) (limits.z * length) (unit * m.z) in
    record {
      has = (
        each_below cap limits length m,
        record {
          on_x = le_trans (mul-le-mul_right (unit * m.x) (le_trans z.not_above_cap y.not_above_cap)) x.not_above;
          on_y = le_trans (mul-le-mul_right (unit * m.y) z.not_above_cap) y.not_above;
          on_z = z.not_above;
        },
      );
      most = λ p h. z.largest p (y.largest p (x.largest p h.0 h.1.on_x) h.1.on_y) h.1.on_z;
    }

-- Block speed v: the largest number not above the feed that the speed limits allow
pub speed_largest : (l : Limits) (b : Block) → Largest (SpeedFits l b) (speed_of l b)
unfolding speed_of
speed_largest l b = each_largest b.feed l.speed (length_of b) (moves_of b)

-- limits of at least 1 allow the rate 1, since no move is above the length
pub one_allowed : (high : ℕ) (limits m : Axes) → AxesIn high limits → Allowed limits (length_from m) m 1
one_allowed high limits m h =
    let spans = length_spans m in
    let times : (limit part : ℕ) → 1 ≤ limit → part ≤ length_from m → 1 * part ≤ limit * length_from m = λ limit part g s. mul-le-mul g s in
    record { on_x = times _ _ h.x_in.0 spans.0; on_y = times _ _ h.y_in.0 spans.1; on_z = times _ _ h.z_in.0 spans.2 }

-- so the block speed is at least 1
pub speed_above : (l : Limits) (b : Block) → limits_refusal l ≡ 0 → block_refusal b ≡ 0 → 1 ≤ speed_of l b
speed_above l b h g = (speed_largest l b).most 1 ((in_range b g).feed_above, one_allowed most_speed l.speed (moves_of b) (limits_in l h).speed_in)

-- a rate whose product with a move is at most a limit times the length is at most twice the limit, where the length is at most
-- twice the move
rate_double : (rate limit length part : ℕ) → 0 < part → length ≤ 2 * part → rate * part ≤ limit * length → rate ≤ 2 * limit
rate_double rate limit length part p s e =
    le_of_mul-le-mul_right {k = part} (le_trans e (le_trans (mul-le-mul_left limit s) (omega (arith, mul_left_comm limit 2 part, mul_assoc 2 limit part)))) p

-- what holds of two numbers holds of the larger
larger_of : (P : ℕ → Type 0) (x y : ℕ) → P x → P y → P (max x y)
larger_of P x y a b = elim (dec_le y x) [ yes h ↦ subst P (sym (max-eq_left h)) a | no h ↦ subst P (sym (max-eq_right (le_of_lt (lt_of_not-le h)))) b ]

-- Acceleration before the torque steps: the largest number that the acceleration limits allow
pub axis_accel_largest : (l : Limits) (b : Block) → limits_refusal l ≡ 0 → block_refusal b ≡ 0 → Largest (AccelFits l b) (axis_accel l b)
unfolding axis_accel greatest_move
axis_accel_largest l b h g =
    let m = moves_of b in
    let each = each_largest (2 * most_accel) l.accel (length_of b) m in
    let limits = (limits_in l h).accel_in in
    let P : ℕ → ℕ → Type 0 = λ p n. p * (unit * n) ≤ most_accel * length_of b in
    let at : (p : ℕ) → AccelFits l b p → P p (greatest_move b) =
    λ p a.
    larger_of (P p) m.x (max m.y m.z) (le_trans a.on_x (mul-le-mul_right _ limits.x_in.1))
    (larger_of (P p) m.y m.z (le_trans a.on_y (mul-le-mul_right _ limits.y_in.1)) (le_trans a.on_z (mul-le-mul_right _ limits.z_in.1))) in
    let moves = (in_range b g).moves in
    record {
      has = each.has.1;
      most = λ p a. each.most p (rate_double p most_accel (length_of b) (unit * greatest_move b) (mul-pos {m = unit} (lit< tt) moves) (length_within b) (at p a), a);
    }

-- it is at least 1
pub axis_accel_above : (l : Limits) (b : Block) → limits_refusal l ≡ 0 → block_refusal b ≡ 0 → 1 ≤ axis_accel l b
axis_accel_above l b h g = (axis_accel_largest l b h g).most 1 (one_allowed most_accel l.accel (moves_of b) (limits_in l h).accel_in)

-- the percent of any torque is a byte
pub percent_byte : (torque v : ℕ) → torque_percent torque v < 256
unfolding torque_percent
percent_byte torque v = omega arith

-- a percent up to 100 raises nothing
torqued_below : (a percent : ℕ) → percent ≤ 100 → a * percent / 100 ≤ a
torqued_below a percent h = div-le_of_le-mul 100 (omega (arith, mul-le-mul_left a h, mul_comm a 100))

-- Acceleration a is at least 1
pub accel_above : (m : Machine) (b : Block) → 1 ≤ accel_of m b
unfolding accel_of
accel_above m b = le-max_left _ _

-- and with any torque below 2^27
pub accel_below : (m : Machine) (b : Block) → accel_of m b < 2 ^ 27
unfolding accel_of axis_accel
accel_below m b =
    let l = m.limits in
    let most = axis_accel l b in
    let percent = torque_percent m.torque (speed_of l b) in
    let product = mul-le-mul {n₁ = most} {m₁ = percent} {n₂ = 2 * most_accel} {m₂ = 255} (each_below _ _ _ _) (omega (arith, percent_byte m.torque (speed_of l b))) in
    omega arith

-- where the torque gives at most 100 percent every axis allows it, also where it was raised to 1
pub accel_allowed : (m : Machine) (b : Block) → limits_refusal m.limits ≡ 0 → block_refusal b ≡ 0 → torque_percent m.torque (speed_of m.limits b) ≤ 100
    → AccelFits m.limits b (accel_of m b)
unfolding accel_of
accel_allowed m b h g percent =
    let l = m.limits in
    allowed_below l.accel (length_of b) (moves_of b)
    (max-le (axis_accel_above l b h g) (torqued_below _ _ percent))
    (axis_accel_largest l b h g).has
