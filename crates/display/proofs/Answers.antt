-- How answers go by a number on the display. From the definitions.
use mathlib.Core.Path.{◌≡◌, refl, sym, ap, ◌∙◌}
use Prim.Native.Nat.{ℕ, zero, suc, ◌<◌}
use native.Mathlib.Omega.{arith}
use mathlib.Core.Bool.{Bool, true, false, cond}
use Rattle.display.specs.Display.{refusal_number, checked_means, by_number, ◌then◌, given, refused, or_refused}
use Rattle.display.specs.declared.Refusal.{Refusal}
use Rattle.display.specs.declared.Refusal.TheVariants as why
use Rattle.std.specs.Prelude.{⊤, Result, Ok, Err}

-- Every refusal has a number above 0.
pub refusal_above : (r : Refusal) → 0 < refusal_number r
refusal_above why.Limits = omega arith
refusal_above why.Still = omega arith
refusal_above why.Long = omega arith
refusal_above why.Feed = omega arith
refusal_above why.Radius = omega arith
refusal_above why.Mark = omega arith
refusal_above why.Full = omega arith
refusal_above why.Empty = omega arith
refusal_above why.Ragged = omega arith
refusal_above why.Many = omega arith
refusal_above why.List = omega arith
refusal_above why.Word = omega arith
refusal_above why.Number = omega arith
refusal_above why.Steps = omega arith
refusal_above why.NotFinite = omega arith
refusal_above why.Beyond = omega arith

module _ {A : Type 0} (a b : A) where
  -- Nothing refused, and something refused.
  pub at_zero : {n : ℕ} → n ≡ 0 → by_number n a b ≡ a
  at_zero {n = zero} e = refl
  at_zero {n = suc n} e = absurd (omega arith)

  pub above_zero : {n : ℕ} → 0 < n → by_number n a b ≡ b
  above_zero {n = zero} h = absurd (omega arith)
  above_zero {n = suc n} h = refl

-- The first of two numbers, and the second where the first is 0. Both are 0 where the answer is.
pub then_first : {a : ℕ} (b : ℕ) → 0 < a → a then b ≡ a
then_first {a} b h = above_zero b a h

pub then_second : {a b c : ℕ} → a ≡ 0 → b ≡ c → a then b ≡ c
then_second {a} {b} e f = at_zero b a e ∙ f

pub then_zero : (a : ℕ) {b : ℕ} → a then b ≡ 0 → (a ≡ 0) × (b ≡ 0)
then_zero zero e = (refl, e)
then_zero (suc a) e = absurd (omega arith)

-- A choice of a number above 0 or another that comes to 0 was for the other, which is 0.
pub next_check : (t : Bool) {n m : ℕ} → 0 < n → cond t n m ≡ 0 → (t ≡ false) × (m ≡ 0)
next_check true h e = absurd (omega arith)
next_check false h e = (refl, e)

pub not_picked : (t : Bool) {n : ℕ} → 0 < n → cond t n 0 ≡ 0 → t ≡ false
not_picked t h e = (next_check t h e).0

-- A choice of 0 or a number above 0 that comes to 0 was for 0.
pub picked : (t : Bool) {n : ℕ} → 0 < n → cond t 0 n ≡ 0 → t ≡ true
picked true h e = refl
picked false h e = absurd (omega arith)

-- What is given is what there is where nothing is refused, and a refusal is the one that there is.
module _ {Why What : Type 0} (a : What) (w : Why) where
  pub gives : {n : ℕ} {b : What} → n ≡ 0 → b ≡ a → given b ≡ by_number n (given a) (refused w)
  gives e f = ap given f ∙ sym (at_zero (given a) (refused w) e)

  pub refuses : {n : ℕ} {v : Why} → 0 < n → v ≡ w → refused v ≡ by_number n (given a) (refused w)
  refuses h f = ap refused f ∙ sym (above_zero (given a) (refused w) h)

  pub given_is : (n : ℕ) {b : What} → given b ≡ by_number n (given a) (refused w) → (n ≡ 0) × (b ≡ a)
  given_is zero e = (refl, cc)
  given_is (suc n) e = let z : ◌≡◌ {A = ℕ} 0 1 = cc in absurd (omega arith)

  pub refused_is : (n : ℕ) {v : Why} → refused v ≡ by_number n (given a) (refused w) → (0 < n) × (v ≡ w)
  refused_is zero e = let z : ◌≡◌ {A = ℕ} 0 1 = cc in absurd (omega arith)
  refused_is (suc n) e = (omega arith, cc)

-- A refusal whose number is the call's.
pub refuses_by : {What : Type 0} (a : What) (r : Refusal) {n : ℕ} → n ≡ refusal_number r → refused (refusal_number r) ≡ or_refused n a
refuses_by a r {n} e = let h : 0 < n = rw e (refusal_above r) in refuses a n h (sym e)

-- The number of a check's answer that is known.
pub told_refused : {r : Result ⊤ Refusal} {w : Refusal} {n : ℕ} → r ≡ Err w → checked_means r ≡ n → n ≡ refusal_number w
told_refused e h = sym h ∙ ap checked_means e

pub told_passed : {r : Result ⊤ Refusal} {n : ℕ} → r ≡ Ok tt → checked_means r ≡ n → n ≡ 0
told_passed e h = sym h ∙ ap checked_means e

-- A check that refused decides,
pub refused_first : {r : Result ⊤ Refusal} {w : Refusal} (n m : ℕ) → r ≡ Err w → checked_means r ≡ n → refusal_number w ≡ n then m
refused_first {w = w} n m e h = let k = told_refused e h in sym (then_first m (rw k (refusal_above w)) ∙ k)

pub refused_answer : {A : Type 0} {r : Result ⊤ Refusal} {w : Refusal} (n : ℕ) (a : A) → r ≡ Err w → checked_means r ≡ n → refused (refusal_number w) ≡ or_refused n a
refused_answer {w = w} n a e h = refuses_by a w (told_refused e h)

-- and one that passed leaves it to what follows.
pub passed_first : {r : Result ⊤ Refusal} (n m : ℕ) → r ≡ Ok tt → checked_means r ≡ n → m ≡ n then m
passed_first n m e h = sym (then_second (told_passed e h) refl)

pub passed_answer : {A : Type 0} {r : Result ⊤ Refusal} (n : ℕ) (a : A) → r ≡ Ok tt → checked_means r ≡ n → given a ≡ or_refused n a
passed_answer n a e h = gives a n (told_passed e h) refl
