-- The numbers of words are those that document 02 words, and no others. From the laws of leading bytes and of numbers.
use mathlib.Core.Path.{◌≡◌, refl, sym, ap, subst, ◌∙◌}
use mathlib.Core.Bool.{Bool, true, false, cond, ◌&&◌}
use mathlib.Core.List.{List, [], ◌∷◌, ◌++◌, append-nil}
use Prim.Native.Nat.{ℕ, ◌+◌, ◌-◌, ◌*◌, ◌^◌, ◌<◌}
use native.Mathlib.Omega.{arith}
use borrow.Author.Tests.{leb-true, le-leb, eqb-true}
use lib.Dec.{leb, eqb}
use lib.IntN.{ℤ, pos, neg_ℤ}
use lib.ListN.{length}
use Rattle.arith.specs.Signed.{signed_by}
use Rattle.arith.proofs.Tests.{both, meets}
use Rattle.text.specs.Text.{OnlyDigits, decimal, value}
use Rattle.text.proofs.Decimal.{decimal_digits, length_below, length_positive, value_decimal}
use Rattle.words.specs.Leading.{leading, behind}
use Rattle.words.specs.Meaning.{Each, Outside, DigitsUpTo, Unsigned, whole, pointed, Numerals, signless, with_plus, with_minus}
use Rattle.words.specs.Number.{after_sign, most_decimals, most_digits, number_in, of_decimals, parts, with_decimals}
use Rattle.words.specs.Pieces.{digit, minus, plus, point, within}
use Rattle.words.proofs.LeadingLaws.{leading_behind}
use Rattle.words.proofs.LeadingMeaning.{leading_cut, behind_cut}
use Rattle.words.proofs.NumberLaws.{leading_digits, all_digits, decimals_are, digits_are, rest_none, rest_point, number_minus, number_plus, number_unsigned}
use Rattle.std.specs.Prelude.{Some, None}

-- Digits alone are of the kind.
each_digit : (s : List ℕ) → OnlyDigits s → Each digit s
each_digit [] d = tt
each_digit (b ∷ s) d = (meets (le-leb 48 b d.0) (le-leb b 57 d.1.0), each_digit s d.1.1)

digits_lead : (s : List ℕ) → OnlyDigits s → leading digit s ≡ s
digits_lead s d = ap (leading digit) (sym (append-nil s)) ∙ leading_cut digit s [] (each_digit s d) tt

-- Digits up to five and what begins with no digit.
cut_digits : (negative : Bool) (s rest : List ℕ) → DigitsUpTo most_digits s → Outside digit rest
    → after_sign negative (s ++ rest) ≡ with_decimals negative (value s) rest
cut_digits negative s rest d out =
    let front : leading digit (s ++ rest) ≡ s = leading_cut digit s rest (each_digit s d.digits) out in
    let back : behind digit (s ++ rest) ≡ rest = behind_cut digit s rest (each_digit s d.digits) out in
    let count : length (leading digit (s ++ rest)) ≡ length s = ap length front in
    digits_are negative (s ++ rest) (omega (arith, count, d.some)) (omega (arith, count, d.few))
    ∙ (λ i. with_decimals negative (value (front i)) (back i))

-- Behind the sign: 1 to 5 digits, and optionally a point with 1 to 4 digits, are the number of these digits in ten-thousandths.
pub unsigned_value : (negative : Bool) (s : List ℕ) (z : ℤ) → Unsigned negative s z → after_sign negative s ≡ Some z
unsigned_value negative s z (whole d) =
    ap (after_sign negative) (sym (append-nil s)) ∙ cut_digits negative s [] d tt ∙ rest_none negative (value s) [] refl
unsigned_value negative _ z (pointed {s} {decimals} d e) =
    cut_digits negative s (point ∷ decimals) d refl
    ∙ rest_point negative (value s) (point ∷ decimals) (omega arith) refl
    ∙ decimals_are negative (value s) decimals e.some e.few (ap length (digits_lead decimals e.digits))

-- Nothing else behind the sign is a number.
bad_number : {z : ℤ} → None ≡ Some z → ⊥
bad_number e = let n : ◌≡◌ {A = ℕ} 0 1 = cc in omega arith

decimals_only : (negative : Bool) (s rest : List ℕ) (z : ℤ) → DigitsUpTo most_digits s → of_decimals negative (value s) rest ≡ Some z
    → Unsigned negative (s ++ point ∷ rest) z
unfolding of_decimals
decimals_only negative s rest z d e = go (within 1 most_decimals (length rest) && eqb (length (leading digit rest)) (length rest)) refl e
  where
    n : ℤ
    n = signed_by negative (value s * parts + value rest * 10 ^ (most_decimals - length rest))

    go : (t : Bool) → within 1 most_decimals (length rest) && eqb (length (leading digit rest)) (length rest) ≡ t → cond t (Some n) None ≡ Some z
        → Unsigned negative (s ++ point ∷ rest) z
    go true q e =
        let tests = both (within 1 most_decimals (length rest)) (eqb (length (leading digit rest)) (length rest)) q in
        let sizes = both (leb 1 (length rest)) (leb (length rest) most_decimals) tests.0 in
        let decimals : DigitsUpTo most_decimals rest =
        record {
          digits = all_digits rest (eqb-true (length (leading digit rest)) (length rest) tests.1);
          some = leb-true 1 (length rest) sizes.0;
          few = leb-true (length rest) most_decimals sizes.1;
        }
        in
        let same : n ≡ z = cc in
        subst (Unsigned negative (s ++ point ∷ rest)) same (pointed d decimals)
    go false q e = absurd (bad_number e)

rest_only : (negative : Bool) (s rest : List ℕ) (z : ℤ) → DigitsUpTo most_digits s → with_decimals negative (value s) rest ≡ Some z
    → Unsigned negative (s ++ rest) z
unfolding with_decimals
rest_only negative s [] z d e =
    let same : signed_by negative (value s * parts) ≡ z = cc in
    subst (λ (t : List ℕ). Unsigned negative t z) (sym (append-nil s)) (subst (Unsigned negative s) same (whole d))
rest_only negative s (b ∷ rest) z d e = go (eqb b point) refl e
  where
    go : (t : Bool) → eqb b point ≡ t → cond t (of_decimals negative (value s) rest) None ≡ Some z → Unsigned negative (s ++ b ∷ rest) z
    go true q e = subst (λ (c : ℕ). Unsigned negative (s ++ c ∷ rest) z) (sym (eqb-true b point q)) (decimals_only negative s rest z d e)
    go false q e = absurd (bad_number e)

pub unsigned_only : (negative : Bool) (s : List ℕ) (z : ℤ) → after_sign negative s ≡ Some z → Unsigned negative s z
unfolding after_sign
unsigned_only negative s z e = go (within 1 most_digits (length (leading digit s))) refl e
  where
    go : (t : Bool) → within 1 most_digits (length (leading digit s)) ≡ t
        → cond t (with_decimals negative (value (leading digit s)) (behind digit s)) None ≡ Some z → Unsigned negative s z
    go true q e =
        let sizes = both (leb 1 (length (leading digit s))) (leb (length (leading digit s)) most_digits) q in
        let digits : DigitsUpTo most_digits (leading digit s) =
        record {
          digits = leading_digits s;
          some = leb-true 1 (length (leading digit s)) sizes.0;
          few = leb-true (length (leading digit s)) most_digits sizes.1;
        }
        in
        subst (λ (t : List ℕ). Unsigned negative t z) (leading_behind digit s) (rest_only negative (leading digit s) (behind digit s) z digits e)
    go false q e = absurd (bad_number e)

-- A digit is no sign.
no_sign : (s rest : List ℕ) → DigitsUpTo most_digits s → number_in (s ++ rest) ≡ after_sign false (s ++ rest)
no_sign [] rest d = absurd (omega (arith, d.some))
no_sign (b ∷ s) rest d =
    number_unsigned (b ∷ s ++ rest) (omega arith) (λ e. omega (arith, d.digits.0, e)) (λ e. omega (arith, d.digits.0, e))

unsigned_first : (s : List ℕ) (z : ℤ) → Unsigned false s z → number_in s ≡ after_sign false s
unsigned_first s z (whole d) = subst (λ (t : List ℕ). number_in t ≡ after_sign false t) (append-nil s) (no_sign s [] d)
unsigned_first _ z (pointed {s} {decimals} d e) = no_sign s (point ∷ decimals) d

-- A number has an optional sign, 1 to 5 digits, and optionally a point with 1 to 4 digits: these numerals are their number, and no others are one.
pub number_value : (s : List ℕ) (z : ℤ) → Numerals s z → number_in s ≡ Some z
number_value s z (signless u) = unsigned_first s z u ∙ unsigned_value false s z u
number_value _ z (with_plus {s} u) = number_plus (plus ∷ s) (omega arith) refl ∙ unsigned_value false s z u
number_value _ z (with_minus {s} u) = number_minus (minus ∷ s) (omega arith) refl ∙ unsigned_value true s z u

pub number_only : (s : List ℕ) (z : ℤ) → number_in s ≡ Some z → Numerals s z
unfolding number_in
number_only [] z e = absurd (bad_number e)
number_only (b ∷ s) z e = go (eqb b minus) (eqb b plus) refl refl e
  where
    go : (x y : Bool) → eqb b minus ≡ x → eqb b plus ≡ y
        → cond x (after_sign true s) (cond y (after_sign false s) (after_sign false (b ∷ s))) ≡ Some z → Numerals (b ∷ s) z
    go true y p q e = subst (λ (c : ℕ). Numerals (c ∷ s) z) (sym (eqb-true b minus p)) (with_minus (unsigned_only true s z e))
    go false true p q e = subst (λ (c : ℕ). Numerals (c ∷ s) z) (sym (eqb-true b plus q)) (with_plus (unsigned_only false s z e))
    go false false p q e = signless (unsigned_only false (b ∷ s) z e)

-- A whole number of up to five digits in decimal, alone and behind either sign.
module _ (n : ℕ) (h : n < 100_000) where
  decimal_unsigned : (negative : Bool) → Unsigned negative (decimal n) (signed_by negative (n * parts))
  decimal_unsigned negative =
      subst (λ (k : ℕ). Unsigned negative (decimal n) (signed_by negative (k * parts))) (value_decimal n)
      (whole (record { digits = decimal_digits n; some = length_positive n; few = length_below 4 n h }))

  pub number_decimal : number_in (decimal n) ≡ Some (pos (n * parts))
  number_decimal = number_value (decimal n) (pos (n * parts)) (signless (decimal_unsigned false))

  pub number_decimal_plus : number_in (plus ∷ decimal n) ≡ Some (pos (n * parts))
  number_decimal_plus = number_value (plus ∷ decimal n) (pos (n * parts)) (with_plus (decimal_unsigned false))

  pub number_decimal_minus : number_in (minus ∷ decimal n) ≡ Some (neg_ℤ (pos (n * parts)))
  number_decimal_minus = number_value (minus ∷ decimal n) (neg_ℤ (pos (n * parts))) (with_minus (decimal_unsigned true))
