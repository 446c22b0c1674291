-- The number of a word. From the definitions and the laws of leading bytes.
use mathlib.Core.Path.{◌≡◌, refl, sym, ap, subst, ◌∙◌}
use mathlib.Core.Bool.{Bool, true, false, cond, ◌&&◌}
use mathlib.Core.List.{List, ◌∷◌, []}
use Prim.Native.Nat.{ℕ, zero, suc, ◌+◌, ◌-◌, ◌*◌, ◌^◌, ◌≤◌, ◌<◌, min}
use native.Mathlib.Decide.{dec_le}
use native.Mathlib.Nat.{lt_of_not-le, mul_comm}
use native.Mathlib.Omega.{arith}
use borrow.Author.Tests.{leb-true, le-leb, lt-leb, eq-eqb, ne_eqb}
use lib.Dec.{lit≤, leb, eqb}
use lib.ListN.{length, take, drop, get_or, drop_of_length-le}
use lib.Pow.{pow-add}
use lib.Seq.{take-length, drop-cons}
use Rattle.arith.specs.Signed.{signed_by}
use Rattle.arith.proofs.Tests.{both, fails_first, fails_second, meets}
use Rattle.text.specs.Text.{OnlyDigits, value, value_behind}
use Rattle.words.specs.Digits.{looked_digits}
use Rattle.words.specs.Leading.{leading, behind}
use Rattle.words.specs.Number.{after_sign, most_decimals, most_digits, number_in, of_decimals, parts, with_decimals}
use Rattle.words.specs.Pieces.{digit, minus, plus, point, within}
use Rattle.words.proofs.LeadingLaws.{leading_first, leading_most, leading_no, leading_yes, take_leading}
use Rattle.std.specs.Prelude.{Some, None}

-- The digits that bytes begin with are digits alone, and so are bytes of which all are among them.
pub leading_digits : (s : List ℕ) → OnlyDigits (leading digit s)
leading_digits [] = tt
leading_digits (b ∷ s) = go (digit b) refl (leading_digits s)
  where
    go : (t : Bool) → digit b ≡ t → OnlyDigits (leading digit s) → OnlyDigits (leading digit (b ∷ s))
    go true e more =
        let t = both (leb 48 b) (leb b 57) e in
        subst OnlyDigits (sym (leading_yes digit b s e)) (leb-true 48 b t.0, (leb-true b 57 t.1, more))
    go false e more = subst OnlyDigits (sym (leading_no digit b s e)) tt

pub all_digits : (s : List ℕ) → length (leading digit s) ≡ length s → OnlyDigits s
all_digits s e = subst OnlyDigits (sym (take_leading digit s) ∙ ap (λ (n : ℕ). take n s) e ∙ take-length s) (leading_digits s)

-- Each byte of digits alone is one.
pub digit_at : (s : List ℕ) (i : ℕ) → OnlyDigits s → i < length s → (48 ≤ get_or s i 0) × (get_or s i 0 ≤ 57)
digit_at [] i d h = absurd (omega arith)
digit_at (b ∷ s) zero d h = (d.0, d.1.0)
digit_at (b ∷ s) (suc i) d h = digit_at s i d.1.1 (omega arith)

-- Reading the digits from place i on: one more, and none, at another byte or at the end.
module _ (above : ℕ) (s : List ℕ) (i : ℕ) where
  abbrev rest : List ℕ → ℕ
  rest l = value_behind above (leading digit l)

  pub reads_yes : i < length s → digit (get_or s i 0) ≡ true
      → value_behind above (leading digit (drop i s)) ≡ value_behind (above * 10 + (get_or s i 0 - 48)) (leading digit (drop (i + 1) s))
  unfolding value_behind
  reads_yes h e =
      ap rest (drop-cons s i 0 h) ∙ ap (value_behind above) (leading_yes digit (get_or s i 0) (drop (suc i) s) e)
      ∙ ap (λ (n : ℕ). value_behind (above * 10 + (get_or s i 0 - 48)) (leading digit (drop n s))) (one i)
    where
      one : (i : ℕ) → suc i ≡ i + 1
      one i = omega arith

  pub reads_no : i < length s → digit (get_or s i 0) ≡ false → value_behind above (leading digit (drop i s)) ≡ above
  unfolding value_behind
  reads_no h e = ap rest (drop-cons s i 0 h) ∙ ap (value_behind above) (leading_no digit (get_or s i 0) (drop (suc i) s) e)

  pub reads_end : length s ≤ i → value_behind above (leading digit (drop i s)) ≡ above
  unfolding value_behind
  reads_end h = ap rest (drop_of_length-le s h)

-- Of the bytes that are looked at: up to five digits are all that there are, and more are too many.
module _ (s : List ℕ) (k : ℕ) (e : k ≡ min (length s) looked_digits) where
  pub looked_few : length (leading digit (take k s)) ≤ most_digits → leading digit (take k s) ≡ leading digit s
  looked_few h = elim (dec_le looked_digits (length s)) [
    | yes l ↦
        let six : k ≡ looked_digits = omega (arith, e, l) in
        ap (λ (n : ℕ). leading digit (take n s)) six ∙ leading_first digit looked_digits s (omega (arith, rw six at h))
    | no l ↦
        let all : k ≡ length s = omega (arith, e, lt_of_not-le l) in
        ap (λ (n : ℕ). leading digit (take n s)) all ∙ ap (leading digit) (take-length s)
  ]

  pub looked_many : most_digits < length (leading digit (take k s)) → most_digits < length (leading digit s)
  looked_many h = omega (arith, h, leading_most digit k s)

-- So many digits write a number below that power of ten.
pub value_below : (n d i : ℕ) → n < 10 ^ i → d ≤ 57 → n * 10 + (d - 48) < 10 ^ (i + 1)
value_below n d i h e = rw (power i) (omega (arith, h, e))
  where
    power : (i : ℕ) → 10 ^ (i + 1) ≡ 10 * 10 ^ i
    power i = pow-add 10 i 1 ∙ mul_comm (10 ^ i) 10

-- Powers of ten up to that of the most digits.
pub power_below : (i : ℕ) → i ≤ 5 → 10 ^ i ≤ 100_000
power_below zero h = lit≤ tt
power_below (suc zero) h = lit≤ tt
power_below (suc (suc zero)) h = lit≤ tt
power_below (suc (suc (suc zero))) h = lit≤ tt
power_below (suc (suc (suc (suc zero)))) h = lit≤ tt
power_below (suc (suc (suc (suc (suc zero))))) h = lit≤ tt
power_below (suc (suc (suc (suc (suc (suc i)))))) h = absurd (omega arith)

-- One to four digits alone.
module _ (negative : Bool) (whole : ℕ) (s : List ℕ) where
  by_form : (t : Bool) → within 1 most_decimals (length s) && eqb (length (leading digit s)) (length s) ≡ t
      → of_decimals negative whole s ≡ cond t (Some (signed_by negative (whole * parts + value s * 10 ^ (most_decimals - length s)))) None
  unfolding of_decimals
  by_form t e = ap (λ (u : Bool). cond u (Some (signed_by negative (whole * parts + value s * 10 ^ (most_decimals - length s)))) None) e

  pub decimals_few : length s ≡ 0 → of_decimals negative whole s ≡ None
  decimals_few e = by_form false (fails_first _ (fails_first _ (lt-leb 1 (length s) (omega (arith, e)))))

  pub decimals_many : most_decimals < length s → of_decimals negative whole s ≡ None
  decimals_many l = by_form false (fails_first _ (fails_second (leb 1 (length s)) (lt-leb (length s) most_decimals l)))

  pub decimals_other : length (leading digit s) < length s → of_decimals negative whole s ≡ None
  decimals_other l =
      by_form false (fails_second (within 1 most_decimals (length s)) (ne_eqb (length (leading digit s)) (length s) (λ e. omega (arith, l, e))))

  pub decimals_are : 1 ≤ length s → length s ≤ most_decimals → length (leading digit s) ≡ length s
      → of_decimals negative whole s ≡ Some (signed_by negative (whole * parts + value s * 10 ^ (most_decimals - length s)))
  decimals_are some few all =
      by_form true (meets (meets (le-leb 1 (length s) some) (le-leb (length s) most_decimals few)) (eq-eqb (length (leading digit s)) (length s) all))

-- What follows the whole digits: nothing, or a point and decimals.
module _ (negative : Bool) (whole : ℕ) where
  pub rest_none : (s : List ℕ) → length s ≡ 0 → with_decimals negative whole s ≡ Some (signed_by negative (whole * parts))
  unfolding with_decimals
  rest_none [] e = refl
  rest_none (b ∷ s) e = absurd (omega arith)

  pub rest_other : (s : List ℕ) → 0 < length s → (get_or s 0 0 ≡ point → ⊥) → with_decimals negative whole s ≡ None
  unfolding with_decimals
  rest_other [] h n = absurd (omega arith)
  rest_other (b ∷ s) h n = rw (ne_eqb b point n)

  pub rest_point : (s : List ℕ) → 0 < length s → get_or s 0 0 ≡ point → with_decimals negative whole s ≡ of_decimals negative whole (drop 1 s)
  unfolding with_decimals
  rest_point [] h e = absurd (omega arith)
  rest_point (b ∷ s) h e = rw (eq-eqb b point e)

-- What follows the sign: one to five digits, and what follows these.
module _ (negative : Bool) (s : List ℕ) where
  by_digits : (t : Bool) → within 1 most_digits (length (leading digit s)) ≡ t
      → after_sign negative s ≡ cond t (with_decimals negative (value (leading digit s)) (behind digit s)) None
  unfolding after_sign
  by_digits t e = ap (λ (u : Bool). cond u (with_decimals negative (value (leading digit s)) (behind digit s)) None) e

  pub digits_few : length (leading digit s) ≡ 0 → after_sign negative s ≡ None
  digits_few e = by_digits false (fails_first _ (lt-leb 1 (length (leading digit s)) (omega (arith, e))))

  pub digits_many : most_digits < length (leading digit s) → after_sign negative s ≡ None
  digits_many l = by_digits false (fails_second (leb 1 (length (leading digit s))) (lt-leb (length (leading digit s)) most_digits l))

  pub digits_are : 1 ≤ length (leading digit s) → length (leading digit s) ≤ most_digits
      → after_sign negative s ≡ with_decimals negative (value (leading digit s)) (behind digit s)
  digits_are some few = by_digits true (meets (le-leb 1 (length (leading digit s)) some) (le-leb (length (leading digit s)) most_digits few))

-- The sign, where there is one.
pub number_none : (s : List ℕ) → length s ≡ 0 → number_in s ≡ None
unfolding number_in
number_none [] e = refl
number_none (b ∷ s) e = absurd (omega arith)

pub number_minus : (s : List ℕ) → 0 < length s → get_or s 0 0 ≡ minus → number_in s ≡ after_sign true (drop 1 s)
unfolding number_in
number_minus [] h e = absurd (omega arith)
number_minus (b ∷ s) h e = rw (eq-eqb b minus e)

pub number_plus : (s : List ℕ) → 0 < length s → get_or s 0 0 ≡ plus → number_in s ≡ after_sign false (drop 1 s)
unfolding number_in
number_plus [] h e = absurd (omega arith)
number_plus (b ∷ s) h e = rw (ne_eqb b minus (λ m. omega (arith, e, m)), eq-eqb b plus e)

pub number_unsigned : (s : List ℕ) → 0 < length s → (get_or s 0 0 ≡ minus → ⊥) → (get_or s 0 0 ≡ plus → ⊥) → number_in s ≡ after_sign false s
unfolding number_in
number_unsigned [] h m p = absurd (omega arith)
number_unsigned (b ∷ s) h m p = rw (ne_eqb b minus m, ne_eqb b plus p)
