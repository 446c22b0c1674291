-- Document 02, Q-1: a line in pieces. A word is a capital and all signs, digits and points after it; spaces outside words are skipped.
use Rattle.std.specs.Prelude.{Bool, cond, ◌&&◌, ◌||◌, List, [], ◌∷◌, ◌++◌, ℕ, leb, eqb}
use Rattle.text.specs.Text.{space}

-- the signs and the point, as ASCII bytes
abbrev pub plus : ℕ
plus = 43

abbrev pub minus : ℕ
minus = 45

abbrev pub point : ℕ
point = 46

-- a byte is from low to high
abbrev pub within : (low high b : ℕ) → Bool
within low high b = leb low b && leb b high

abbrev pub digit : ℕ → Bool
digit b = within 48 57 b

abbrev pub capital : ℕ → Bool
capital b = within 65 90 b

-- a sign, a digit or a point
abbrev pub numeral : ℕ → Bool
numeral b = digit b || (eqb b plus || (eqb b minus || eqb b point))

-- what a byte is to a line
pub data Kind : Type 0 where
  gap letter number other : Kind

abbrev pub kind_of : ℕ → Kind
kind_of b = cond (numeral b) number (cond (eqb b space) gap (cond (capital b) letter other))

-- a piece: a word, its letter and its numerals; or a byte outside a word that is no space
pub data Piece : Type 0 where
  word : (letter : ℕ) (numerals : List ℕ) → Piece
  stray : ℕ → Piece

-- the word that has begun before a byte, with its numerals so far, or none
pub data Begun : Type 0 where
  none : Begun
  begun : (letter : ℕ) (numerals : List ℕ) → Begun

-- the pieces behind a word that has ended, or behind none
abbrev pub ended : Begun → List Piece → List Piece
ended none rest = rest
ended (begun c n) rest = word c n ∷ rest

-- the pieces of the bytes behind a word that has begun, or behind none
unfoldable pub pieces_from : Begun → List ℕ → List Piece
pieces_from w [] = ended w []
pieces_from w (b ∷ line) = elim (kind_of b) [
  | gap ↦ ended w (pieces_from none line)
  | letter ↦ ended w (pieces_from (begun b []) line)
  | number ↦ elim w [ none ↦ stray b ∷ pieces_from none line | begun c n ↦ pieces_from (begun c (n ++ b ∷ [])) line ]
  | other ↦ ended w (stray b ∷ pieces_from none line)
]

-- the pieces of a line
abbrev pub pieces_of : List ℕ → List Piece
pieces_of line = pieces_from none line
