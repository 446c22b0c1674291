-- Two's complement of any width: `signed_of` and `bits_of` are inverse. From the definitions and the laws of powers.
use mathlib.Core.Path.{◌≡◌, refl, ap, sym, ◌∙◌}
use mathlib.Core.Bool.{Bool, true, false, cond}
use Prim.Native.Nat.{ℕ, zero, suc, ◌+◌, ◌-◌, ◌*◌, ◌/◌, ◌%◌, ◌^◌, ◌≤◌, ◌<◌}
use native.Mathlib.Nat.{mod-lt, mod-mod, mod-eq_of_lt, mod-eq-sub-mod, two-pow-succ, div-add-mod', add-mul}
use native.Mathlib.Omega.{arith}
use borrow.Author.Tests.{lt-ltb, le-ltb, ltb-true, ltb-false}
use lib.Dec.{ltb}
use lib.Pow as Pow
use lib.Pow.{pow_pos, pow_mono, pow-add, mod-mod-pow, shr_lt}
use mir.Facts.{to_z-of_z}
use lib.Arith.{comp_comp}
use mir.Syntax.{w64}
use mir.Val.{SFits, to_z, of_z}
use lib.IntN.{ℤ, pos, negsuc, nat_abs, ◌-ℤ◌}
use lib.Signed.{mag}
use Rattle.fields.specs.Signed.{signed_of, bits_of}

-- The range of `width` bits is `mag z < 2 ^ (width - 1)`, half the power: `mag z` is n both for n and for -(n + 1).
halves : (width : ℕ) → 0 < width → 2 ^ width ≡ 2 ^ (width - 1) + 2 ^ (width - 1)
halves zero h = absurd (omega arith)
halves (suc k) h =
    let e : suc k - 1 ≡ k = omega arith in
    rw e (two-pow-succ k)

-- An integer whose size is in range is in range.
pub mag_nat_abs : (z : ℤ) → mag z ≤ nat_abs z
mag_nat_abs (pos n) = omega arith
mag_nat_abs (negsuc n) = omega arith

-- The bits of any integer fit the width.
pub bits_lt : (width : ℕ) (z : ℤ) → bits_of width z < 2 ^ width
unfolding bits_of
bits_lt width (pos n) = mod-lt n (pow_pos width)
bits_lt width (negsuc n) = omega (arith, mod-lt n (pow_pos width))

-- An integer in range comes back from its bits.
pub signed_bits : (width : ℕ) (z : ℤ) → 0 < width → mag z < 2 ^ (width - 1) → signed_of width (bits_of width z) ≡ z
unfolding signed_of bits_of
signed_bits width (pos n) p l =
    let m : n < 2 ^ width = omega (arith, halves width p) in
    rw (mod-eq_of_lt m, mod-eq_of_lt m, lt-ltb (n + n) (2 ^ width) (omega (arith, halves width p)))
signed_bits width (negsuc n) p l =
    let m : n < 2 ^ width = omega (arith, halves width p) in
    let u : 2 ^ width - suc n < 2 ^ width = omega arith in
    rw (mod-eq_of_lt m, mod-eq_of_lt u, le-ltb (2 ^ width - suc n + (2 ^ width - suc n)) (2 ^ width) (omega (arith, halves width p)), comp_comp m)

module _ (width n : ℕ) where
  low_lt : n % 2 ^ width < 2 ^ width
  low_lt = mod-lt n (pow_pos width)

  -- Bits come back from the integer that they stand for.
  pub bits_signed : bits_of width (signed_of width n) ≡ n % 2 ^ width
  unfolding signed_of bits_of
  bits_signed = half (ltb (n % 2 ^ width + n % 2 ^ width) (2 ^ width))
    where
      half : (t : Bool) → bits_of width (cond t (pos (n % 2 ^ width)) (negsuc (2 ^ width - suc (n % 2 ^ width)))) ≡ n % 2 ^ width
      half true = mod-mod n (2 ^ width)
      half false =
          let u : 2 ^ width - suc (n % 2 ^ width) < 2 ^ width = omega (arith, low_lt) in
          rw (mod-eq_of_lt u, comp_comp low_lt)

  -- Bits above the width play no part.
  pub signed_mod : signed_of width (n % 2 ^ width) ≡ signed_of width n
  unfolding signed_of
  signed_mod = rw (mod-mod n (2 ^ width))

  -- Bits stand for an integer in range.
  pub signed_range : 0 < width → mag (signed_of width n) < 2 ^ (width - 1)
  unfolding signed_of
  signed_range p = half (ltb (n % 2 ^ width + n % 2 ^ width) (2 ^ width)) refl
    where
      half : (t : Bool) → ltb (n % 2 ^ width + n % 2 ^ width) (2 ^ width) ≡ t
          → mag (cond t (pos (n % 2 ^ width)) (negsuc (2 ^ width - suc (n % 2 ^ width)))) < 2 ^ (width - 1)
      half true e = omega (arith, halves width p, ltb-true)
      half false e = omega (arith, halves width p, ltb-false, low_lt)

  -- The same for any width, in the width's power.
  pub signed_size : mag (signed_of width n) < 2 ^ width
  unfolding signed_of
  signed_size = half (ltb (n % 2 ^ width + n % 2 ^ width) (2 ^ width))
    where
      half : (t : Bool) → mag (cond t (pos (n % 2 ^ width)) (negsuc (2 ^ width - suc (n % 2 ^ width)))) < 2 ^ width
      half true = low_lt
      half false = omega (arith, low_lt)

-- The low bits of the bits of an integer are its bits in fewer.
pub bits_cut : (above width : ℕ) (z : ℤ) → bits_of (above + width) z % 2 ^ width ≡ bits_of width z
unfolding bits_of
bits_cut above width (pos n) = mod-mod-pow n above width
bits_cut above width (negsuc n) =
    let p = 2 ^ width in
    let m = n % 2 ^ (above + width) in
    let fits : m < 2 ^ (above + width) = mod-lt n (pow_pos (above + width)) in
    let low : m % p ≡ n % p = mod-mod-pow n above width in
    let rest : m % p < p = mod-lt m (pow_pos width) in
    let high : m / p < 2 ^ above = shr_lt above width fits in
    let x = 2 ^ above - 1 - m / p in
    let whole : 2 ^ above ≡ x + (m / p + 1) = omega arith in
    let e : 2 ^ (above + width) - suc m ≡ x * p + (p - suc (m % p)) =
    omega (arith, pow-add 2 above width, ap (λ (k : ℕ). k * p) whole, div-add-mod' m p, add-mul x (m / p + 1) p, add-mul (m / p) 1 p) in
    rw (e, low) (Pow.low x width (omega (arith, low, rest)))

-- So it comes back from its bits in more, as a move from the 64 bits of a word.
pub cut_back : (whole width : ℕ) (z : ℤ) → 0 < width → width ≤ whole → mag z < 2 ^ (width - 1) → signed_of width (bits_of whole z) ≡ z
cut_back whole width z p w l =
    let e : whole ≡ whole - width + width = omega arith in
    sym (signed_mod width (bits_of whole z))
    ∙ ap (λ (k : ℕ). signed_of width (bits_of k z % 2 ^ width)) e
    ∙ ap (signed_of width) (bits_cut (whole - width) width z)
    ∙ signed_bits width z p l

-- The difference of two numbers, where it is one and where it is below 0.
difference_natural : (n b : ℕ) → pos (n + b) -ℤ pos b ≡ pos n
difference_natural n zero = ap pos (omega arith)
difference_natural n (suc b) =
    let e : n + suc b - suc b ≡ n = omega arith in
    rw (le-ltb (n + suc b) (suc b) (omega arith), e)

difference_negative : (a n : ℕ) → pos a -ℤ pos (suc (a + n)) ≡ negsuc n
difference_negative a n =
    let e : suc (a + n) - suc a ≡ n = omega arith in
    rw (lt-ltb a (suc (a + n)) (omega arith), e)

-- What the code computes of a power p: the two halves, and the two signs.
module _ (width : ℕ) {p : ℕ} (e : p ≡ 2 ^ width) where
  pub signed_low : (n : ℕ) → n % p + n % p < p → signed_of width n ≡ pos (n % p)
  unfolding signed_of
  signed_low n l = rw (← e, lt-ltb (n % p + n % p) p l)

  pub signed_high : (n : ℕ) → p ≤ n % p + n % p → signed_of width n ≡ negsuc (p - 1 - n % p)
  unfolding signed_of
  signed_high n l =
      let f : p - suc (n % p) ≡ p - 1 - n % p = omega arith in
      rw (← e, le-ltb (n % p + n % p) p l, f)

  -- The bits moved up by half the power, and down again.
  pub signed_moved : (n : ℕ) → 0 < p → pos ((n % p + p / 2) % p) -ℤ pos (p / 2) ≡ signed_of width n
  signed_moved n q = half (ltb (n % p + n % p) p) refl
    where
      m : n % p < p
      m = mod-lt n q

      half : (t : Bool) → ltb (n % p + n % p) p ≡ t → pos ((n % p + p / 2) % p) -ℤ pos (p / 2) ≡ signed_of width n
      half true t =
          let l : n % p + n % p < p = ltb-true (n % p + n % p) p t in
          let r : (n % p + p / 2) % p ≡ n % p + p / 2 = mod-eq_of_lt (omega arith) in
          ap (λ (k : ℕ). pos k -ℤ pos (p / 2)) r ∙ difference_natural (n % p) (p / 2) ∙ sym (signed_low n l)
      half false t =
          let l : p ≤ n % p + n % p = ltb-false (n % p + n % p) p t in
          let r : (n % p + p / 2) % p ≡ n % p + p / 2 - p = mod-eq-sub-mod (omega arith) ∙ mod-eq_of_lt (omega (arith, m)) in
          let d : p / 2 ≡ suc (n % p + p / 2 - p + (p - 1 - n % p)) = omega (arith, m) in
          ap (λ (k : ℕ). pos k -ℤ pos (p / 2)) r
          ∙ ap (λ (k : ℕ). pos (n % p + p / 2 - p) -ℤ pos k) d
          ∙ difference_negative (n % p + p / 2 - p) (p - 1 - n % p)
          ∙ sym (signed_high n l)

-- What std's casts between a word and an integer give.
pub bits_cast : (z : ℤ) → SFits w64 z → of_z w64 z ≡ bits_of 64 z
unfolding bits_of
bits_cast (pos n) f = let m : n % 2 ^ 64 ≡ n = mod-eq_of_lt (omega (arith, f.sfits)) in sym m
bits_cast (negsuc n) f = let m : n % 2 ^ 64 ≡ n = mod-eq_of_lt (omega (arith, f.sfits)) in ap (λ (k : ℕ). 2 ^ 64 - suc k) (sym m)

pub signed_cast : (n : ℕ) → n < 2 ^ 64 → to_z w64 n ≡ signed_of 64 n
signed_cast n h =
    let f : SFits w64 (signed_of 64 n) = record { sfits = signed_range 64 n (omega arith) } in
    ap (to_z w64) (sym (bits_cast (signed_of 64 n) f ∙ bits_signed 64 n ∙ mod-eq_of_lt h)) ∙ to_z-of_z f
