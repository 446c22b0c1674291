-- What the fields of a double's pattern stand for: its magnitude, as the code finds it, and its reading, which is that of the pattern.
-- From the toolchain's laws of patterns and of values.
use mathlib.Core.Path.{◌≡◌, refl, sym, ap, subst, ◌∙◌}
use mathlib.Core.Bool.{Bool, true, false, cond}
use Prim.Native.Nat.{ℕ, zero, suc, ◌+◌, ◌-◌, ◌*◌, ◌/◌, ◌%◌, ◌^◌, ◌≤◌, ◌<◌, min}
use native.Mathlib.Nat.{le_trans, le_of_eq, le_of_suc-le-suc, lt_of_lt_of_le, le-add_right, min-eq_left, mul_assoc, mul_comm, mul_left_comm, mul_right_comm, mul-one, mul-le-mul_left, ne_of_lt}
use native.Mathlib.Omega.{arith}
use borrow.Author.Tests.{eqb-true, eqb-false, le-leb, lt-leb, ne_eqb}
use lib.Arith.{lt_of_le-ne}
use Rattle.std.specs.Float.{float_is_finite}
use lib.Dec.{leb, eqb, lit<, lit≤}
use lib.Pow.{pow_pos, pow_mono, pow-add}
use lib.IntN.{ℤ, pos, nat_abs}
use lib.Ieee.{Float, nan, inf, fin, binary64, of_bits, of_fields, odd, up, down}
use lib.Ieee.Exact.{HasValue, odd_sign}
use lib.Ieee.Fits.{down_pos}
use lib.Ieee.Nearest.{closest, closest_same, closest_mono}
use Rattle.arith.specs.Signed.{signed_by}
use Rattle.arith.proofs.SignedLaws.{nat_abs_neg, read_back, small_back}
use Rattle.doubles.specs.Readings.{magnitude_of, most_read, pattern_reading, reading_by, reading_of, smallest, units_of}
use Rattle.std.specs.Prelude.{Ok, Err}
use Rattle.display.specs.declared.Refusal.TheVariants.{NotFinite, Beyond}
use Rattle.doubles.proofs.Closest.{closest_small}

-- an exponent's field above 0
units_above : (e t : ℕ) → 0 < e → units_of e t ≡ (2 ^ 52 + t) * 2 ^ (e - 1)
unfolding units_of
units_above e t h =
    let f : suc (e - 1) ≡ e = omega arith in
    ap (λ (x : ℕ). units_of x t) (sym f)

magnitude_above : (e t : ℕ) → 0 < e → magnitude_of e t ≡ closest ((2 ^ 52 + t) * 2 ^ (e - 1) * 1000) (2 ^ smallest)
magnitude_above e t h = ap (λ (x : ℕ). closest (x * 1000) (2 ^ smallest)) (units_above e t h)

-- a factor 2 ^ k on both sides
shifted : (q k l : ℕ) → k ≤ l → closest (q * 2 ^ k * 1000) (2 ^ l) ≡ closest (q * 1000) (2 ^ (l - k))
shifted q k l h =
    let e : 2 ^ l ≡ 2 ^ k * 2 ^ (l - k) = ap (λ (x : ℕ). 2 ^ x) {y = k + (l - k)} (omega arith) ∙ pow-add 2 k (l - k) in
    closest_same (q * 2 ^ k * 1000) (2 ^ l) (q * 1000) (2 ^ (l - k)) (pow_pos l) (pow_pos (l - k))
    (sym (ap (λ (x : ℕ). q * 1000 * x) e ∙ simp (mul_assoc, mul_comm, mul_left_comm) refl))

-- from 2 ^ 20 on, 1,000 times the number is beyond what is read
far : (q k l : ℕ) → 2 ^ 52 ≤ q → l + 20 ≤ k + 52 → 1000 * 2 ^ 20 ≤ closest (q * 2 ^ k * 1000) (2 ^ l)
far q k l h g =
    let a : 2 ^ (l + 20) ≤ 2 ^ (k + 52) = pow_mono g in
    let b : 2 ^ k * 2 ^ 52 ≤ 2 ^ k * q = mul-le-mul_left (2 ^ k) h in
    closest_mono (1000 * 2 ^ 20) 1 (q * 2 ^ k * 1000) (2 ^ l) (lit< tt) (pow_pos l)
    (omega (arith, a, b, pow-add 2 l 20, pow-add 2 k 52, mul_comm (2 ^ k) q))

-- the magnitude where the exponent's field is 0, as the code computes it: it is 0
pub magnitude_tiny : (r e t : ℕ) → e ≡ 0 → t < 2 ^ 52 → r ≡ closest (t * 1000) (2 ^ smallest) → r ≡ min (most_read + 1) (magnitude_of e t)
unfolding units_of
magnitude_tiny r e t h l p =
    let z : 0 ≡ closest (t * 1000) (2 ^ smallest) = closest_small (t * 1000) (2 ^ smallest) (lt_of_lt_of_le (twice t l) (lit≤ tt)) in
    let same : magnitude_of e t ≡ closest (t * 1000) (2 ^ smallest) = ap (λ (x : ℕ). magnitude_of x t) h in
    p ∙ sym z ∙ sym (ap (min (most_read + 1)) (same ∙ sym z))
  where
    twice : (t : ℕ) → t < 2 ^ 52 → t * 1000 * 2 < 2 ^ 64
    twice t l = omega arith

-- where it is 1043 or more, the double is at least 2 ^ 20
pub magnitude_far : (e t : ℕ) → 1043 ≤ e → most_read + 1 ≡ min (most_read + 1) (magnitude_of e t)
magnitude_far e t h =
    let u : 1000 * 2 ^ 20 ≤ closest ((2 ^ 52 + t) * 2 ^ (e - 1) * 1000) (2 ^ smallest) = far (2 ^ 52 + t) (e - 1) smallest (le-add_right (2 ^ 52) t) (omega arith) in
    sym (min-eq_left (le_trans (lit≤ tt) (le_trans u (le_of_eq (sym (magnitude_above e t (omega arith)))))))

-- where it is above 0 and the last digit weighs at most 1, one shift gives the magnitude
pub magnitude_shifted : (e t : ℕ) → 0 < e → e ≤ smallest + 1 → closest ((2 ^ 52 + t) * 1000) (2 ^ (smallest + 1 - e)) ≡ magnitude_of e t
magnitude_shifted e t h k =
    let f : smallest + 1 - e ≡ smallest - (e - 1) = omega arith in
    sym (magnitude_above e t h ∙ shifted (2 ^ 52 + t) (e - 1) smallest (omega arith) ∙ ap (λ (x : ℕ). closest ((2 ^ 52 + t) * 1000) (2 ^ x)) (sym f))

-- the reading of a double by any fraction that is its value
by_value : (x : Float) (s : Bool) (a c : ℕ) → 0 < c → HasValue x s a c → reading_of x ≡ reading_by s (closest (a * 1000) c)
unfolding reading_of
by_value nan s a c p h = absurd h
by_value (inf t) s a c p h = absurd h
by_value (fin t m e) s a c p h =
    let f : closest (m * up e * 1000) (down e) ≡ closest (a * 1000) c =
    closest_same (m * up e * 1000) (down e) (a * 1000) c (down_pos e) p (mul_right_comm (m * up e) 1000 c ∙ ap (λ (x : ℕ). x * 1000) h.1 ∙ mul_right_comm a (down e) 1000) in
    λ i. reading_by (h.0 i) (f i)

fields_value : (s : Bool) (e t : ℕ) → e < 2047 → HasValue (of_fields binary64 s e t) s (units_of e t) (2 ^ smallest)
unfolding of_fields units_of
fields_value s zero t h = subst (λ (x : ℕ). HasValue (odd 53 s t 0 smallest) s x (2 ^ smallest)) (mul-one t) (odd_sign 53 s t 0 smallest)
fields_value s (suc x) t h =
    subst (λ (b : Bool). HasValue (cond b (cond (eqb t 0) (inf s) nan) (odd 53 s (2 ^ 52 + t) x smallest)) s ((2 ^ 52 + t) * 2 ^ x) (2 ^ smallest))
    (sym (ne_eqb (suc x) 2047 (ne_of_lt h))) (odd_sign 53 s (2 ^ 52 + t) x smallest)

-- a finite double, by its fields
pub reading_fields : (s : Bool) (e t : ℕ) → e < 2047 → reading_of (of_fields binary64 s e t) ≡ reading_by s (magnitude_of e t)
reading_fields s e t h = by_value (of_fields binary64 s e t) s (units_of e t) (2 ^ smallest) (pow_pos smallest) (fields_value s e t h)

-- an infinity or a NaN, by its fields
pub reading_ones : (s : Bool) (e t : ℕ) → e ≡ 2047 → reading_of (of_fields binary64 s e t) ≡ Err NotFinite
unfolding of_fields reading_of
reading_ones s e t h = ap (λ (k : ℕ). reading_of (of_fields binary64 s k t)) h ∙ either (eqb t 0)
  where
    either : (b : Bool) → reading_of (cond b (inf s) nan) ≡ Err NotFinite
    either true = refl
    either false = refl

-- the reading of a double is the reading of its pattern
pub reading_bits : (b : ℕ) → reading_of (of_bits binary64 b) ≡ pattern_reading b
unfolding of_bits pattern_reading
reading_bits b = go (eqb e 2047) refl
  where
    e : ℕ
    e = b % 2 ^ 63 / 2 ^ 52

    s : Bool
    s = leb (2 ^ 63) b

    t : ℕ
    t = b % 2 ^ 52

    go : (o : Bool) → eqb e 2047 ≡ o → reading_of (of_fields binary64 s e t) ≡ cond o (Err NotFinite) (reading_by s (magnitude_of e t))
    go true q = reading_ones s e t (eqb-true e 2047 q)
    go false q = reading_fields s e t (lt_of_le-ne (below b) (eqb-false e 2047 q))
      where
        below : (b : ℕ) → b % 2 ^ 63 / 2 ^ 52 ≤ 2047
        below b = omega arith

-- a double that is not finite, and the fields of one that is
pub reading_infinite : (x : Float) → float_is_finite x ≡ false → Err NotFinite ≡ reading_of x
unfolding reading_of float_is_finite
reading_infinite nan h = refl
reading_infinite (inf s) h = refl
reading_infinite (fin s m e) h = cc

pub finite_fields : (s : Bool) (e t : ℕ) → float_is_finite (of_fields binary64 s e t) ≡ true → e < 2048 → e < 2047
unfolding of_fields float_is_finite
finite_fields s e t f h = lt_of_le-ne (le_of_suc-le-suc h) (λ q. either (eqb t 0) (subst (λ (k : ℕ). float_is_finite (of_fields binary64 s k t) ≡ true) q f))
  where
    either : (b : Bool) → float_is_finite (cond b (inf s) nan) ≡ true → ⊥
    either true g = cc
    either false g = cc

-- the reading by a magnitude that is cut at one more than the most
pub reading_beyond : (s : Bool) (n m : ℕ) → n ≡ min (most_read + 1) m → most_read < n → Err Beyond ≡ reading_by s m
reading_beyond s n m e h = sym (ap (λ (b : Bool). cond b (Ok (signed_by s m)) (Err Beyond)) (lt-leb m most_read (omega arith)))

pub reading_at : (s : Bool) (n m : ℕ) → n ≡ min (most_read + 1) m → n ≤ most_read → Ok (signed_by s n) ≡ reading_by s m
reading_at s n m e h =
    let f : n ≡ m = omega arith in
    ap (λ (x : ℕ). Ok (signed_by s x)) f ∙ sym (ap (λ (b : Bool). cond b (Ok (signed_by s m)) (Err Beyond)) (le-leb m most_read (omega arith)))

-- the number of a magnitude and a sign has that magnitude, and is a number of 64 bits
pub signed_size : (s : Bool) (n : ℕ) → nat_abs (signed_by s n) ≡ n
signed_size true n = nat_abs_neg (pos n)
signed_size false n = refl

pub signed_back : (s : Bool) (n : ℕ) (z : ℤ) → n ≤ most_read → z ≡ signed_by s n → read_back z ≡ signed_by s n
signed_back s n z h e = small_back z (rw e (omega (arith, signed_size s n))) ∙ e
