-- What the definitions of lines, words and numbers are to mean: the other side of the laws about them.
use Rattle.std.specs.Prelude.{◌≡◌, Bool, true, false, List, [], ◌∷◌, ◌++◌, ℕ, ◌+◌, ◌-◌, ◌*◌, ◌^◌, ◌≤◌, ◌<◌, eqb, ℤ, pos, length, get_or, Option, Some, None}
use Rattle.arith.specs.Signed.{signed_by}
use Rattle.text.specs.Text.{OnlyDigits, line_feed, space, value}
use Rattle.words.specs.Lines.{in_line}
use Rattle.words.specs.Pieces.{Piece, word, stray, plus, minus, point}
use Rattle.words.specs.Number.{most_decimals, most_digits, number_in, parts}
use Rattle.words.specs.Words.{Words, slot_of, slots}

-- every byte of a list is of a kind; the first one, where there is one, is not
abbrev pub Each : (ℕ → Bool) → List ℕ → Type 0
Each kind [] = Unit {0}
Each kind (b ∷ s) = (kind b ≡ true) × Each kind s

abbrev pub Outside : (ℕ → Bool) → List ℕ → Type 0
Outside kind [] = Unit {0}
Outside kind (b ∷ s) = kind b ≡ false

-- lines one behind the other, each with its line feed
abbrev pub joined : List (List ℕ) → List ℕ
joined [] = []
joined (line ∷ lines) = line ++ line_feed ∷ joined lines

-- no line has a line feed
abbrev pub Plain : List (List ℕ) → Type 0
Plain [] = Unit {0}
Plain (line ∷ lines) = Each in_line line × Plain lines

-- a text is empty, or its last byte is a line feed
abbrev pub ends_line : List ℕ → Bool
ends_line [] = true
ends_line (b ∷ []) = eqb b line_feed
ends_line (b ∷ c ∷ text) = ends_line (c ∷ text)

-- the bytes of pieces one behind the other
abbrev pub bytes_of : List Piece → List ℕ
bytes_of [] = []
bytes_of (word letter numerals ∷ rest) = letter ∷ numerals ++ bytes_of rest
bytes_of (stray b ∷ rest) = b ∷ bytes_of rest

-- a line without its spaces
unfoldable pub unspaced : List ℕ → List ℕ
unspaced [] = []
unspaced (b ∷ line) = elim (eqb b space) [ true ↦ unspaced line | false ↦ b ∷ unspaced line ]

-- digits alone, at least one and so many at most
pub record DigitsUpTo (most : ℕ) (s : List ℕ) : Type 0 where
  pub digits : OnlyDigits s
  pub some : 1 ≤ length s
  pub few : length s ≤ most

-- what stands behind a sign writes z, ten-thousandths: 1 to 5 digits, or these, a point and 1 to 4 digits
pub data Unsigned (negative : Bool) : (s : List ℕ) (z : ℤ) → Type 0 where
  whole : {s : List ℕ} → DigitsUpTo most_digits s → Unsigned negative s (signed_by negative (value s * parts))
  pointed : {s decimals : List ℕ} → DigitsUpTo most_digits s → DigitsUpTo most_decimals decimals
      → Unsigned negative (s ++ point ∷ decimals) (signed_by negative (value s * parts + value decimals * 10 ^ (most_decimals - length decimals)))

-- the numerals of a word write z: an optional sign, and such digits
pub data Numerals : (s : List ℕ) (z : ℤ) → Type 0 where
  signless : {s : List ℕ} {z : ℤ} → Unsigned false s z → Numerals s z
  with_plus : {s : List ℕ} {z : ℤ} → Unsigned false s z → Numerals (plus ∷ s) z
  with_minus : {s : List ℕ} {z : ℤ} → Unsigned true s z → Numerals (minus ∷ s) z

-- the number of a piece, and its slot: a byte outside a word has neither, a word with a badly formed number has no slot
abbrev pub number_of : Piece → Option ℤ
number_of (word letter numerals) = number_in numerals
number_of (stray b) = None

abbrev pub slot_by : (letter : ℕ) → Option ℤ → Option ℕ
slot_by letter (Some z) = slot_of letter z
slot_by letter None = None

abbrev pub slot_in : Piece → Option ℕ
slot_in (word letter numerals) = slot_by letter (number_in numerals)
slot_in (stray b) = None

-- those of the piece at a place from 0; behind the last there are none
abbrev pub number_at : List Piece → ℕ → Option ℤ
number_at pieces i = number_of (get_or pieces i (stray 0))

abbrev pub slot_at : List Piece → ℕ → Option ℕ
slot_at pieces i = slot_in (get_or pieces i (stray 0))

-- a slot is listed
abbrev pub Listed : Option ℕ → Type 0
Listed (Some k) = k < slots
Listed None = ⊥

-- every piece is a word that is listed, and no two have the same slot
pub record Once (pieces : List Piece) : Type 0 where
  pub listed : (i : ℕ) → i < length pieces → Listed (slot_at pieces i)
  pub apart : (i j k : ℕ) → slot_at pieces i ≡ Some k → slot_at pieces j ≡ Some k → i ≡ j

-- the words of pieces: the slot of each has its number, and no other slot has a word
pub record Kept (pieces : List Piece) (w : Words) : Type 0 where
  pub stands : (i k : ℕ) → slot_at pieces i ≡ Some k → get_or w.stands k false ≡ true
  pub number : (i k : ℕ) → slot_at pieces i ≡ Some k → number_at pieces i ≡ Some (get_or w.values k (pos 0))
  pub only : (k : ℕ) → get_or w.stands k false ≡ true → (i : ℕ) × (slot_at pieces i ≡ Some k)

-- a piece is faulty behind others, by the number on the display: it is a byte outside a word, a word whose number is badly formed, one that
-- is not listed, or one whose slot is that of a word before it
pub data Faulty (front : List Piece) : Piece → ℕ → Type 0 where
  outside : {b : ℕ} → Faulty front (stray b) 12
  badly_formed : {letter : ℕ} {numerals : List ℕ} → number_in numerals ≡ None → Faulty front (word letter numerals) 13
  not_listed : {letter : ℕ} {numerals : List ℕ} {z : ℤ} → number_in numerals ≡ Some z → slot_of letter z ≡ None → Faulty front (word letter numerals) 12
  repeated : {letter : ℕ} {numerals : List ℕ} (i k : ℕ) → slot_in (word letter numerals) ≡ Some k → slot_at front i ≡ Some k
      → Faulty front (word letter numerals) 12

-- the first faulty piece, behind pieces that are right
pub record FirstFault (pieces : List Piece) (n : ℕ) : Type 0 where
  pub front : List Piece
  pub piece : Piece
  pub rest : List Piece
  pub cut : pieces ≡ front ++ piece ∷ rest
  pub right : Once front
  pub faulty : Faulty front piece n
