-- Document 02, Q-1: the number of a word has an optional sign, 1 to 5 digits, and optionally a point with 1 to 4 digits. It is counted in
-- ten-thousandths.
use Rattle.std.specs.Prelude.{Bool, true, false, cond, ◌&&◌, List, [], ◌∷◌, ℕ, ◌+◌, ◌-◌, ◌*◌, ◌^◌, eqb, length, ℤ, Option, Some, None}
use Rattle.arith.specs.Signed.{signed_by}
use Rattle.text.specs.Text.{value}
use Rattle.words.specs.Leading.{leading, behind}
use Rattle.words.specs.Pieces.{digit, within, plus, minus, point}

-- most digits before the point and behind it, and the parts of 1 in which numbers are counted
abbrev pub most_digits : ℕ
most_digits = 5

abbrev pub most_decimals : ℕ
most_decimals = 4

abbrev pub parts : ℕ
parts = 10_000

-- the greatest number of a word, ten-thousandths: five digits and four decimals
abbrev pub most_number : ℕ
most_number = 999_999_999

-- the number with a sign, whole digits that write `whole`, and decimals: one to four digits alone; none where it is badly formed
unfoldable pub of_decimals : (negative : Bool) (whole : ℕ) (decimals : List ℕ) → Option ℤ
of_decimals negative whole s =
    cond (within 1 most_decimals (length s) && eqb (length (leading digit s)) (length s))
    (Some (signed_by negative (whole * parts + value s * 10 ^ (most_decimals - length s))))
    None

-- and with what follows the whole digits: nothing, or a point and decimals
unfoldable pub with_decimals : (negative : Bool) (whole : ℕ) (rest : List ℕ) → Option ℤ
with_decimals negative whole [] = Some (signed_by negative (whole * parts))
with_decimals negative whole (b ∷ rest) = cond (eqb b point) (of_decimals negative whole rest) None

-- the number with a sign and what follows the sign
unfoldable pub after_sign : (negative : Bool) → List ℕ → Option ℤ
after_sign negative s = cond (within 1 most_digits (length (leading digit s))) (with_decimals negative (value (leading digit s)) (behind digit s)) None

-- the number that a word's numerals write
unfoldable pub number_in : List ℕ → Option ℤ
number_in [] = None
number_in (b ∷ s) = cond (eqb b minus) (after_sign true s) (cond (eqb b plus) (after_sign false s) (after_sign false (b ∷ s)))
