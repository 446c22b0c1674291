-- The digits at the beginning of a number, as they are read: no more than are needed to see that there are too many.
use Rattle.std.specs.Prelude.{◌≡◌, List, ℕ, ◌+◌, length}
use Rattle.text.specs.Text.{value}
use Rattle.words.specs.Leading.{leading}
use Rattle.words.specs.Number.{most_digits}
use Rattle.words.specs.Pieces.{digit}
use Rattle.words.specs.declared.Digits.{Digits}

-- how many are looked at: one more than may stand before a point
abbrev pub looked_digits : ℕ
looked_digits = most_digits + 1

-- the digits that s begins with: how many, and the number that they write
pub record DigitsIn (s : List ℕ) (r : Digits) : Type 0 where
  pub counted : r.count ≡ length (leading digit s)
  pub reads : r.value ≡ value (leading digit s)
