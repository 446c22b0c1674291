-- Bits of a number: `part_of` reads some, `with_part` replaces them. From the laws of powers, for any number of bits.
use mathlib.Core.Path.{◌≡◌, refl, sym, ap, ◌∙◌}
use Prim.Native.Nat.{ℕ, ◌+◌, ◌-◌, ◌*◌, ◌/◌, ◌%◌, ◌^◌, ◌≤◌, ◌<◌}
use native.Mathlib.Nat.{add_comm, add-sub_of_le, mod-lt, mod-mod, mod-eq_of_lt, mul-add-div_right, mul-add-mod_self_right, mul_assoc, le-mul_of_pos_right, le_refl}
use native.Mathlib.Omega.{arith}
use lib.Pow as Pow
use lib.Pow.{pow_pos, pow-add}
use lib.Arith.{digits_lt}
use Rattle.fields.specs.Fields.{part_of, with_part}

-- The part of a part is a part of the whole.
pub part_part : (n K k w : ℕ) {W : ℕ} → k + w ≤ W → part_of (part_of n K W) k w ≡ part_of n (K + k) w
part_part n K k w {W} h =
    let j : ℕ = W - (k + w) in
    let e : W ≡ j + w + k = omega arith in
    rw (e, Pow.field (n / 2 ^ K) (j + w) k, Pow.mod-mod-pow (n / 2 ^ K / 2 ^ k) j w, Pow.shr-shr n K k)

-- A part of a + b bits is its a high bits and its b low bits, side by side.
pub part_cut : (n k a b : ℕ) → part_of n k (a + b) ≡ part_of n (k + b) a * 2 ^ b + part_of n k b
part_cut n k a b = rw (Pow.mod-pow-add (n / 2 ^ k) a b, Pow.shr-shr n k b)

-- What was written is read.
pub part_with : (n k w v : ℕ) → part_of (with_part n k w v) k w ≡ v % 2 ^ w
unfolding with_part
part_with n k w v =
    rw (Pow.high (n / 2 ^ k / 2 ^ w * 2 ^ w + v % 2 ^ w) k (mod-lt n (pow_pos k)), Pow.low (n / 2 ^ k / 2 ^ w) w (mod-lt v (pow_pos w)))

-- Writing what is there changes nothing.
pub with_part_lem : (n k w : ℕ) → with_part n k w (part_of n k w) ≡ n
unfolding with_part
with_part_lem n k w = rw (mod-mod (n / 2 ^ k) (2 ^ w), Pow.split (n / 2 ^ k) w, Pow.split n k)

-- The bits above and the bits below those that are written.
with_above : (n k w v : ℕ) → with_part n k w v / 2 ^ k / 2 ^ w ≡ n / 2 ^ k / 2 ^ w
unfolding with_part
with_above n k w v =
    rw (Pow.high (n / 2 ^ k / 2 ^ w * 2 ^ w + v % 2 ^ w) k (mod-lt n (pow_pos k)), Pow.high (n / 2 ^ k / 2 ^ w) w (mod-lt v (pow_pos w)))

with_below : (n k w v : ℕ) → with_part n k w v % 2 ^ k ≡ n % 2 ^ k
unfolding with_part
with_below n k w v = Pow.low (n / 2 ^ k / 2 ^ w * 2 ^ w + v % 2 ^ w) k (mod-lt n (pow_pos k))

-- A part above, or below, what is written reads as before.
pub part_above : (n k w v : ℕ) {k' : ℕ} (w' : ℕ) → k + w ≤ k' → part_of (with_part n k w v) k' w' ≡ part_of n k' w'
part_above n k w v {k'} w' h = ap (λ (x : ℕ). x % 2 ^ w') (cut (with_part n k w v) ∙ ap (λ (x : ℕ). x / 2 ^ (k' - (k + w))) (with_above n k w v) ∙ sym (cut n))
  where
    cut : (x : ℕ) → x / 2 ^ k' ≡ x / 2 ^ k / 2 ^ w / 2 ^ (k' - (k + w))
    cut x = rw (Pow.shr-shr x k w, Pow.shr-shr x (k + w) (k' - (k + w)), add-sub_of_le h)

pub part_below : (n k w v k' w' : ℕ) → k' + w' ≤ k → part_of (with_part n k w v) k' w' ≡ part_of n k' w'
part_below n k w v k' w' h = cut (with_part n k w v) ∙ ap (λ (x : ℕ). x % 2 ^ (w' + k') / 2 ^ k') (with_below n k w v) ∙ sym (cut n)
  where
    cut : (x : ℕ) → part_of x k' w' ≡ x % 2 ^ k % 2 ^ (w' + k') / 2 ^ k'
    cut x =
        let e : k ≡ k - (k' + w') + (w' + k') = omega arith in
        rw (e, Pow.mod-mod-pow x (k - (k' + w')) (w' + k'), Pow.field x w' k')

-- By its three parts, as the definition has it, where the powers are numbers at hand.
pub with_def : (n k w v : ℕ) {p q : ℕ} → p ≡ 2 ^ k → q ≡ 2 ^ w → with_part n k w v ≡ (n / p / q * q + v % q) * p + n % p
unfolding with_part
with_def n k w v e f = rw (e, f)

-- Writing keeps a number of t bits within t bits.
pub with_lt : (n k w v : ℕ) {t : ℕ} → k + w ≤ t → n < 2 ^ t → with_part n k w v < 2 ^ t
unfolding with_part
with_lt n k w v {t} h l =
    let j : ℕ = t - (k + w) in
    let e : t ≡ j + w + k = omega arith in
    let a : n / 2 ^ k < 2 ^ (j + w) = Pow.shr_lt (j + w) k (rw e at l) in
    let b : n / 2 ^ k / 2 ^ w * 2 ^ w + v % 2 ^ w < 2 ^ j * 2 ^ w = digits_lt (Pow.shr_lt j w a) (mod-lt v (pow_pos w)) in
    rw (e, pow-add 2 (j + w) k, pow-add 2 j w) (digits_lt b (mod-lt n (pow_pos k)))

-- No step of computing `with_part` leaves the t bits.
pub with_fits : (n k w v : ℕ) {p q t : ℕ} → p ≡ 2 ^ k → q ≡ 2 ^ w → k + w ≤ t → n < 2 ^ t
    → (n / p / q * q + v % q ≤ (n / p / q * q + v % q) * p) × ((n / p / q * q + v % q) * p + n % p < 2 ^ t)
with_fits n k w v {p} {q} {t} e f h l =
    (rw e (le-mul_of_pos_right (n / 2 ^ k / q * q + v % q) (pow_pos k)), rw (with_def n k w v e f) at (with_lt n k w v {t = t} h l))

-- What stands at or above bit j + k plays no part in the k low bits, and stands above the rest.
shr_add : (a n j k : ℕ) → (a * 2 ^ (j + k) + n) / 2 ^ k ≡ a * 2 ^ j + n / 2 ^ k
shr_add a n j k = rw (pow-add 2 j k, ← mul_assoc a (2 ^ j) (2 ^ k)) (mul-add-div_right (pow_pos k) (a * 2 ^ j) n)

mod_add : (a n j k : ℕ) → (a * 2 ^ (j + k) + n) % 2 ^ k ≡ n % 2 ^ k
mod_add a n j k = rw (pow-add 2 j k, ← mul_assoc a (2 ^ j) (2 ^ k)) (mul-add-mod_self_right (a * 2 ^ j) (2 ^ k) n)

-- A number of two words, a above the t bits of n: a part in the upper word, in the lower word, and across both.
pub part_upper : (a n t k w : ℕ) → n < 2 ^ t → part_of (a * 2 ^ t + n) (t + k) w ≡ part_of a k w
part_upper a n t k w h = rw (← Pow.shr-shr (a * 2 ^ t + n) t k, Pow.high a t h)

pub part_lower : (a n k w : ℕ) {t : ℕ} → k + w ≤ t → part_of (a * 2 ^ t + n) k w ≡ part_of n k w
part_lower a n k w {t} h =
    let j : ℕ = t - (k + w) in
    let e : t ≡ j + w + k = omega arith in
    rw (e, shr_add a n (j + w) k, mod_add a (n / 2 ^ k) j w)

pub part_across : (a n k i b : ℕ) → n < 2 ^ (k + b) → part_of (a * 2 ^ (k + b) + n) k (i + b) ≡ a % 2 ^ i * 2 ^ b + part_of n k b
part_across a n k i b h =
    rw (part_cut (a * 2 ^ (k + b) + n) k i b, Pow.high a (k + b) h, part_lower a n k b {t = k + b} (le_refl (k + b)))

-- Writing in a number that stands above b other bits.
with_low : (x b k w v : ℕ) {y : ℕ} → y < 2 ^ b → with_part (x * 2 ^ b + y) (k + b) w v ≡ with_part x k w v * 2 ^ b + y
unfolding with_part
with_low x b k w v {y} h =
    let high : (x * 2 ^ b + y) / 2 ^ (k + b) ≡ x / 2 ^ k =
    rw (add_comm k b, ← Pow.shr-shr (x * 2 ^ b + y) b k, Pow.high x b h) in
    let low : (x * 2 ^ b + y) % 2 ^ (k + b) ≡ x % 2 ^ k * 2 ^ b + y =
    rw (Pow.mod-pow-add (x * 2 ^ b + y) k b, Pow.high x b h, Pow.low x b h) in
    rw (high, low, pow-add 2 k b) (omega arith)

-- Writing in a number that stands below another.
with_high : (a n k w v : ℕ) {t : ℕ} → k + w ≤ t → with_part (a * 2 ^ t + n) k w v ≡ a * 2 ^ t + with_part n k w v
unfolding with_part
with_high a n k w v {t} h =
    let j : ℕ = t - (k + w) in
    let e : t ≡ j + w + k = omega arith in
    rw (e, shr_add a n (j + w) k, mod_add a n (j + w) k, shr_add a (n / 2 ^ k) j w, pow-add 2 (j + w) k, pow-add 2 j w) (omega arith)

-- Writing in a part, and the part into the whole, is writing in the whole.
pub with_with : (n K k w v : ℕ) {W : ℕ} → k + w ≤ W → with_part n K W (with_part (part_of n K W) k w v) ≡ with_part n (k + K) w v
with_with n K k w v {W} h =
    let x : ℕ = n / 2 ^ K in
    whole ∙ ap (λ (m : ℕ). m * 2 ^ K + n % 2 ^ K) (sym (with_high (x / 2 ^ W) (x % 2 ^ W) k w v h) ∙ ap (λ (m : ℕ). with_part m k w v) (Pow.split x W))
    ∙ sym (with_low x K k w v (mod-lt n (pow_pos K))) ∙ ap (λ (m : ℕ). with_part m (k + K) w v) (Pow.split n K)
  where
    whole : with_part n K W (with_part (part_of n K W) k w v) ≡ (n / 2 ^ K / 2 ^ W * 2 ^ W + with_part (part_of n K W) k w v) * 2 ^ K + n % 2 ^ K
    whole =
        with_def n K W (with_part (part_of n K W) k w v) refl refl
        ∙ ap (λ (m : ℕ). (n / 2 ^ K / 2 ^ W * 2 ^ W + m) * 2 ^ K + n % 2 ^ K)
        (mod-eq_of_lt (with_lt (part_of n K W) k w v h (mod-lt (n / 2 ^ K) (pow_pos W))))
