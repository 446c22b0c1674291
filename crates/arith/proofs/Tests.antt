-- What a test that is made of several says.
use Rattle.std.proofs.Common.{◌≡◌, ℕ, Bool, true, false, ◌&&◌, eqb, sym, refl, ap, ◌∙◌, arith, eq-eqb, ne_eqb, eqb-true}
use borrow.Author.Tests.{eqb-false}

-- both halves of a test that holds
pub both : (a b : Bool) → a && b ≡ true → (a ≡ true) × (b ≡ true)
both true true e = (refl, refl)
both true false e = (refl, e)
both false b e = (e, absurd (differ e))
  where
    differ : false ≡ true → ⊥
    differ p = let z : ◌≡◌ {A = ℕ} 0 1 = cc in omega arith

-- a test of two that fails by either, and one that both meet
pub fails_first : {a : Bool} (b : Bool) → a ≡ false → a && b ≡ false
fails_first {a} b e = ap (λ (t : Bool). t && b) e

pub fails_second : (a : Bool) {b : Bool} → b ≡ false → a && b ≡ false
fails_second true e = e
fails_second false e = refl

pub meets : {a b : Bool} → a ≡ true → b ≡ true → a && b ≡ true
meets e f = λ i. e i && f i

-- the tests of two numbers against a third agree where one is it exactly where the other is
pub same_test : (a b p : ℕ) → (a ≡ p → b ≡ p) → (b ≡ p → a ≡ p) → eqb a p ≡ eqb b p
same_test a b p f g = go (eqb b p) refl
  where
    go : (t : Bool) → eqb b p ≡ t → eqb a p ≡ eqb b p
    go true e = eq-eqb a p (g (eqb-true b p e)) ∙ sym e
    go false e = ne_eqb a p (λ q. eqb-false b p e (f q)) ∙ sym e
