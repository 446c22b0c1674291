-- What a word is by its bytes, as the scanner takes it. From the definitions of kinds.
use Rattle.std.proofs.Common.{◌≡◌, ℕ, ◌+◌, ◌-◌, ◌*◌, ◌≤◌, true, false, List, ◌∷◌, [], inl, inr, refl, ap, ◌∙◌, length, arith}
use borrow.Author.Tests.{le-leb, leb-true}
use lib.Dec.{leb}
use Rattle.std.specs.Prelude.{Option, Some, None, bytes_eq}
use Rattle.std.specs.Char.{is_ascii_digit}
use Rattle.std.proofs.lemmas.Bool.{cases_Bool}
use Rattle.std.proofs.lemmas.Bool.Decides.{nat_tests}
use Rattle.std.proofs.lemmas.Slice.Eq.{bytes_eq-Decides}
use Rattle.options.specs.declared.Word.TheVariants as word
use Rattle.options.specs.Kinds.{help_word, version_word, steps_word, width_word, dashed, value_from, number_of, plain_or, word_of}
use Rattle.options.specs.Line.{Digits, Number}

pub data Sort (w : List ℕ) : Type 0 where
  help : w ≡ help_word → word_of w ≡ word.Help → Sort w
  version : w ≡ version_word → word_of w ≡ word.Version → Sort w
  steps : w ≡ steps_word → word_of w ≡ word.Steps → Sort w
  width : w ≡ width_word → word_of w ≡ word.Width → Sort w
  unknown : word_of w ≡ word.Unknown → dashed w ≡ true → Sort w
  plain : word_of w ≡ word.Plain → dashed w ≡ false → (Number w → ⊥) → Sort w
  number : (n : ℕ) → word_of w ≡ word.Number n → dashed w ≡ false → Number w → Sort w

-- a digit lies between its bounds
digit_in : (b : ℕ) → is_ascii_digit b ≡ true → (48 ≤ b) × (b ≤ 57)
digit_in b e = grind (arith, nat_tests)

-- the digits after others of a value say a number, and a number is all digits
value_some : (v : ℕ) (w : List ℕ) → Digits w → value_from v w ≡ None → ⊥
unfolding value_from
value_some v [] d e = cc
value_some v (b ∷ w) d e = value_some (10 * v + (b - 48)) w d.2 (rw (le-leb 48 b d.0, le-leb b 57 d.1) at e)

value_digits : (v n : ℕ) (w : List ℕ) → value_from v w ≡ Some n → Digits w
unfolding value_from
value_digits v n [] e = tt
value_digits v n (b ∷ w) e = elim (cases_Bool (is_ascii_digit b)) [
  | inl d ↦ ((digit_in b d).0, (digit_in b d).1, value_digits (10 * v + (b - 48)) n w (rw d at e))
  | inr d ↦ absurd (let f = rw d at e in cc)
]

number_none : (w : List ℕ) → number_of w ≡ None → Number w → ⊥
unfolding number_of
number_none w e n = value_some 0 w n.2 (rw (le-leb 1 (length w) n.0, le-leb (length w) 9 n.1) at e)

number_some : (w : List ℕ) (n : ℕ) → number_of w ≡ Some n → Number w
unfolding number_of
number_some w n e = elim (cases_Bool (leb 1 (length w))) [
  | inl h ↦ elim (cases_Bool (leb (length w) 9)) [
    | inl g ↦ (leb-true 1 (length w) h, leb-true (length w) 9 g, value_digits 0 n w (rw (h, g) at e))
    | inr g ↦ absurd (let f = rw (h, g) at e in cc)
  ]
  | inr h ↦ absurd (let f = rw h at e in cc)
]

undashed : (w : List ℕ) (o : Option ℕ) → number_of w ≡ o → word_of w ≡ plain_or (number_of w) → dashed w ≡ false → Sort w
undashed w None n e d = plain (e ∙ ap plain_or n) d (number_none w n)
undashed w (Some v) n e d = number v (e ∙ ap plain_or n) d (number_some w v n)

pub sort_of : (w : List ℕ) → Sort w
unfolding word_of
sort_of w = elim (cases_Bool (bytes_eq w help_word)) [
  | inl e ↦ help ((bytes_eq-Decides w help_word).0 e) (rw e)
  | inr e ↦ elim (cases_Bool (bytes_eq w version_word)) [
    | inl g ↦ version ((bytes_eq-Decides w version_word).0 g) (rw (e, g))
    | inr g ↦ elim (cases_Bool (bytes_eq w steps_word)) [
      | inl h ↦ steps ((bytes_eq-Decides w steps_word).0 h) (rw (e, g, h))
      | inr h ↦ elim (cases_Bool (bytes_eq w width_word)) [
        | inl k ↦ width ((bytes_eq-Decides w width_word).0 k) (rw (e, g, h, k))
        | inr k ↦ elim (cases_Bool (dashed w)) [
          | inl d ↦ unknown (rw (e, g, h, k, d)) d
          | inr d ↦ undashed w (number_of w) refl (rw (e, g, h, k, d)) d
        ]
      ]
    ]
  ]
]
