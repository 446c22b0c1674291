-- How large the numbers of a line are. From the definitions and the laws of numbers.
use mathlib.Core.Path.{◌≡◌, refl}
use mathlib.Core.Bool.{Bool, true, false, cond, ◌&&◌}
use mathlib.Core.List.{List, ◌∷◌, []}
use Prim.Native.Nat.{ℕ, zero, suc, ◌+◌, ◌-◌, ◌*◌, ◌^◌, ◌≤◌, ◌<◌}
use native.Mathlib.Nat.{le_trans, le_refl, mul-le-mul, mul_assoc, mul_comm, pow-suc}
use native.Mathlib.Omega.{arith}
use borrow.Author.Tests.{leb-true, eqb-true}
use lib.Dec.{leb, eqb}
use lib.IntN.{ℤ, pos, nat_abs}
use lib.ListN.{length, get_or, set, replicate}
use Rattle.arith.specs.Signed.{signed_by}
use Rattle.arith.proofs.SignedLaws.{nat_abs_neg}
use Rattle.arith.proofs.Tests.{both}
use Rattle.text.specs.Text.{OnlyDigits, value, value_behind}
use Rattle.words.specs.Leading.{leading, behind}
use Rattle.words.specs.Number.{after_sign, most_decimals, most_digits, most_number, number_in, of_decimals, parts, with_decimals}
use Rattle.display.specs.Display.{Outcome, given, refused}
use Rattle.words.specs.Pieces.{Piece, word, stray, digit, minus, plus, point, within, pieces_of}
use Rattle.words.specs.Words.{Words, Scan, filled, no_words, scan, slot_of, slots, behind_words, with_number, with_pieces, with_slot, with_word, words_of}
use Rattle.words.proofs.NumberLaws.{leading_digits, all_digits, power_below}
use Rattle.std.specs.Prelude.{Option, Some, None}

-- So many digits write a number below that power of ten.
value_most : (above : ℕ) (s : List ℕ) → OnlyDigits s → value_behind above s + 1 ≤ (above + 1) * 10 ^ length s
unfolding value_behind
value_most above [] d = omega arith
value_most above (b ∷ s) d =
    le_trans (value_most (above * 10 + (b - 48)) s d.1.1)
    (next (above * 10 + (b - 48) + 1) (above + 1) (length s) (omega (arith, d.1.0)))
  where
    next : (m n i : ℕ) → m ≤ n * 10 → m * 10 ^ i ≤ n * 10 ^ suc i
    next m n i h = rw pow-suc (omega (arith, mul-le-mul h (le_refl (10 ^ i)), mul_assoc n 10 (10 ^ i), mul_comm (10 ^ i) 10))

pub value_small : (s : List ℕ) → OnlyDigits s → value s < 10 ^ length s
value_small s d = omega (arith, value_most 0 s d)

-- the whole digits and the decimals
whole_small : (s : List ℕ) → OnlyDigits s → length s ≤ most_digits → value s ≤ 99_999
whole_small s d h = omega (arith, value_small s d, power_below (length s) h)

decimals_small : (v n : ℕ) → v < 10 ^ n → n ≤ most_decimals → v * 10 ^ (most_decimals - n) ≤ 9_999
decimals_small v zero h g = omega arith
decimals_small v (suc zero) h g = omega arith
decimals_small v (suc (suc zero)) h g = omega arith
decimals_small v (suc (suc (suc zero))) h g = omega arith
decimals_small v (suc (suc (suc (suc zero)))) h g = omega arith
decimals_small v (suc (suc (suc (suc (suc n))))) h g = absurd (omega arith)

-- A number is so small, or badly formed.
abbrev Small : Option ℤ → Type 0
Small None = Unit {0}
Small (Some z) = nat_abs z ≤ most_number

signed_small : (negative : Bool) (n : ℕ) → n ≤ most_number → Small (Some (signed_by negative n))
signed_small true n h = omega (arith, nat_abs_neg (pos n), h)
signed_small false n h = h

chosen_small : (t : Bool) (n : Option ℤ) → (t ≡ true → Small n) → Small (cond t n None)
chosen_small true n h = h refl
chosen_small false n h = tt

of_small : (negative : Bool) (whole : ℕ) (s : List ℕ) → whole ≤ 99_999 → Small (of_decimals negative whole s)
unfolding of_decimals
of_small negative whole s h =
    chosen_small (within 1 most_decimals (length s) && eqb (length (leading digit s)) (length s)) _ (λ t. small (both (within 1 most_decimals (length s)) _ t))
  where
    small : (within 1 most_decimals (length s) ≡ true) × (eqb (length (leading digit s)) (length s) ≡ true)
        → Small (Some (signed_by negative (whole * parts + value s * 10 ^ (most_decimals - length s))))
    small t =
        let few = leb-true (length s) most_decimals (both (leb 1 (length s)) _ t.0).1 in
        let all = eqb-true (length (leading digit s)) (length s) t.1 in
        signed_small negative (whole * parts + value s * 10 ^ (most_decimals - length s)) (omega (arith, h, decimals_small (value s) (length s) (value_small s (all_digits s all)) few))

with_small : (negative : Bool) (whole : ℕ) (s : List ℕ) → whole ≤ 99_999 → Small (with_decimals negative whole s)
unfolding with_decimals
with_small negative whole [] h = signed_small negative (whole * parts) (omega (arith, h))
with_small negative whole (b ∷ s) h = chosen_small (eqb b point) _ (λ t. of_small negative whole s h)

after_small : (negative : Bool) (s : List ℕ) → Small (after_sign negative s)
unfolding after_sign
after_small negative s =
    chosen_small (within 1 most_digits (length (leading digit s))) _
    (λ t. with_small negative _ (behind digit s)
    (whole_small (leading digit s) (leading_digits s) (leb-true (length (leading digit s)) most_digits (both (leb 1 (length (leading digit s))) _ t).1)))

number_small : (s : List ℕ) → Small (number_in s)
unfolding number_in
number_small [] = tt
number_small (b ∷ s) = go (eqb b minus) (eqb b plus)
  where
    go : (x y : Bool) → Small (cond x (after_sign true s) (cond y (after_sign false s) (after_sign false (b ∷ s))))
    go true y = after_small true s
    go false true = after_small false s
    go false false = after_small false (b ∷ s)

-- Every number of a line is so small: each was read from a word, or is 0 where none stands.
abbrev pub SmallWords : Words → Type 0
SmallWords w = (k : ℕ) → nat_abs (get_or w.values k (pos 0)) ≤ most_number

abbrev SmallIn : Outcome ℕ Words → Type 0
SmallIn (given w) = SmallWords w
SmallIn (refused n) = Unit {0}

set_small : (l : List ℤ) (k : ℕ) (z : ℤ) (j : ℕ) → nat_abs z ≤ most_number → ((i : ℕ) → nat_abs (get_or l i (pos 0)) ≤ most_number)
    → nat_abs (get_or (set l k z) j (pos 0)) ≤ most_number
set_small [] k z j h g = g j
set_small (x ∷ l) zero z zero h g = h
set_small (x ∷ l) zero z (suc j) h g = g (suc j)
set_small (x ∷ l) (suc k) z zero h g = g zero
set_small (x ∷ l) (suc k) z (suc j) h g = set_small l k z j h (λ i. g (suc i))

zeros_small : (n k : ℕ) → nat_abs (get_or (replicate n (pos 0)) k (pos 0)) ≤ most_number
zeros_small zero k = omega arith
zeros_small (suc n) zero = omega arith
zeros_small (suc n) (suc k) = zeros_small n k

slot_small : (slot : Option ℕ) (z : ℤ) (w : Words) → nat_abs z ≤ most_number → SmallWords w → SmallIn (with_slot slot z w)
slot_small None z w h g = tt
slot_small (Some k) z w h g = go (get_or w.stands k false)
  where
    go : (t : Bool) → SmallIn (cond t (refused 12) (given (filled k z w)))
    go true = tt
    go false = λ j. set_small w.values k z j h g

word_small : (letter : ℕ) (numerals : List ℕ) (w : Words) → SmallWords w → SmallIn (with_word letter numerals w)
unfolding with_word
word_small letter numerals w g = go (number_in numerals) (number_small numerals)
  where
    go : (n : Option ℤ) → Small n → SmallIn (with_number letter n w)
    go None h = tt
    go (Some z) h = slot_small (slot_of letter z) z w h g

abbrev words_after : Scan → Words
words_after s = s.words

pieces_small : (pieces : List Piece) (w : Words) → SmallWords w → SmallWords (with_pieces pieces w).words
unfolding with_pieces
pieces_small [] w g = g
pieces_small (stray b ∷ rest) w g = g
pieces_small (word letter numerals ∷ rest) w g = go (with_word letter numerals w) (word_small letter numerals w g) (pieces_small rest)
  where
    go : (o : Outcome ℕ Words) → SmallIn o → ((v : Words) → SmallWords v → SmallWords (with_pieces rest v).words)
        → SmallWords (words_after (elim o [ given v ↦ with_pieces rest v | refused n ↦ scan n w ]))
    go (given v) h more = more v h
    go (refused n) h more = g

pub words_small : (line : List ℕ) → SmallWords (words_of line).words
unfolding behind_words
words_small line = pieces_small (pieces_of line) no_words (zeros_small slots)
