-- What a reading says: the whole number nearest to 1,000 times the double, the only one, within the bounds; and that a difference is
-- finite only where both doubles are. From the laws of the nearest whole number and the toolchain's difference.
use mathlib.Core.Path.{◌≡◌, refl, ap, subst}
use mathlib.Core.Logic.{◌⊎◌, inl, inr}
use mathlib.Core.Bool.{Bool, true, false, not, cond, beq}
use Prim.Native.Nat.{ℕ, ◌*◌, ◌≤◌}
use native.Mathlib.Omega.{arith}
use borrow.Author.Tests.{leb-true}
use lib.Dec.{leb}
use lib.IntN.{ℤ, nat_abs}
use lib.Ieee.{Float, nan, inf, fin, binary64, down, sub, up}
use lib.Ieee.Fits.{down_pos}
use Rattle.arith.specs.Nearest.{NearestHalfEven}
use Rattle.arith.specs.Signed.{signed_by}
use Rattle.arith.proofs.NearestLaws.{half_even_one}
use Rattle.doubles.specs.Readings.{most_read, reading_by, reading_of, thousandths}
use Rattle.std.specs.Prelude.{Ok, Err}
use Rattle.display.specs.declared.Refusal.TheVariants.{NotFinite, Beyond}
use Rattle.doubles.proofs.Closest.{closest_nearest}
use Rattle.doubles.proofs.Decoding.{signed_size}

-- a finite double m × 2 ^ e is read by the whole number nearest to 1,000 × m × 2 ^ e, an exact half to the even one
pub reading_nearest : (m : ℕ) (e : ℤ) → NearestHalfEven (m * up e * 1000) (down e) (thousandths m e)
unfolding thousandths
reading_nearest m e = closest_nearest (m * up e * 1000) (down e) (down_pos e)

-- there is one such number only, and the double is read by it
pub reading_one : (s : Bool) (m : ℕ) (e : ℤ) (n : ℕ) → NearestHalfEven (m * up e * 1000) (down e) n → reading_of (fin s m e) ≡ reading_by s n
unfolding reading_of
reading_one s m e n h = ap (reading_by s) (half_even_one (down_pos e) (reading_nearest m e) h)

-- what is read is at most `most_read` either way
pub reading_within : (x : Float) (z : ℤ) → reading_of x ≡ Ok z → nat_abs z ≤ most_read
unfolding reading_of
reading_within nan z h = let n : ◌≡◌ {A = ℕ} 0 1 = cc in absurd (omega arith)
reading_within (inf s) z h = let n : ◌≡◌ {A = ℕ} 0 1 = cc in absurd (omega arith)
reading_within (fin s m e) z h = go (leb (thousandths m e) most_read) refl h
  where
    go : (t : Bool) → leb (thousandths m e) most_read ≡ t → cond t (Ok (signed_by s (thousandths m e))) (Err Beyond) ≡ Ok z → nat_abs z ≤ most_read
    go true q h =
        let same : signed_by s (thousandths m e) ≡ z = cc in
        subst (λ (z : ℤ). nat_abs z ≤ most_read) same (omega (arith, signed_size s (thousandths m e), leb-true (thousandths m e) most_read q))
    go false q h = let n : ◌≡◌ {A = ℕ} 0 1 = cc in absurd (omega arith)

-- a finite double is never read as not finite
pub finite_read : (s : Bool) (m : ℕ) (e : ℤ) → reading_of (fin s m e) ≡ Err NotFinite → ⊥
unfolding reading_of
finite_read s m e h = go (leb (thousandths m e) most_read) h
  where
    go : (t : Bool) → cond t (Ok (signed_by s (thousandths m e))) (Err Beyond) ≡ Err NotFinite → ⊥
    go true h = let n : ◌≡◌ {A = ℕ} 0 1 = cc in omega arith
    go false h = let n : ◌≡◌ {A = ℕ} 0 1 = cc in omega arith

-- a difference is not finite where the first double is not, and where the second is not: one look at the difference sees all three
pub difference_finite : (a b : Float) → (reading_of a ≡ Err NotFinite) ⊎ (reading_of b ≡ Err NotFinite) → reading_of (sub binary64 a b) ≡ Err NotFinite
unfolding reading_of sub
difference_finite nan b h = refl
difference_finite (inf s) nan h = refl
difference_finite (inf s) (inf t) h = either (beq s (not t))
  where
    either : (u : Bool) → reading_of (cond u (inf s) nan) ≡ Err NotFinite
    either true = refl
    either false = refl
difference_finite (inf s) (fin t n d) h = refl
difference_finite (fin s m e) nan h = refl
difference_finite (fin s m e) (inf t) h = refl
difference_finite (fin s m e) (fin t n d) (inl h) = absurd (finite_read s m e h)
difference_finite (fin s m e) (fin t n d) (inr h) = absurd (finite_read t n d h)
