-- Document 02, Q-1: the words of a line. Each letter but G stands at most once on a line, and so does each of three pairs of G words: one
-- slot for each of these.
use Rattle.std.specs.Prelude.{Bool, true, false, cond, ◌||◌, List, [], ◌∷◌, ℕ, ◌*◌, ◌<◌, eqb, get_or, set, replicate, map, is_some, ℤ, pos, negsuc, Option, Some, None}
use Rattle.std.specs.Option.{unwrap_or}
use Rattle.display.specs.Display.{Outcome, given, refused}
use Rattle.words.specs.Pieces.{Piece, word, stray, pieces_of}
use Rattle.words.specs.Number.{number_in, parts}

-- the slots: G0 or G1, G20 or G21, G90 or G91, N, X, Y, Z and F
abbrev pub motion_slot : ℕ
motion_slot = 0

abbrev pub unit_slot : ℕ
unit_slot = 1

abbrev pub way_slot : ℕ
way_slot = 2

abbrev pub line_slot : ℕ
line_slot = 3

abbrev pub x_slot : ℕ
x_slot = 4

abbrev pub y_slot : ℕ
y_slot = 5

abbrev pub z_slot : ℕ
z_slot = 6

abbrev pub feed_slot : ℕ
feed_slot = 7

abbrev pub slots : ℕ
slots = 8

-- a number is so many ten-thousandths; the number of a G word is a whole number
abbrev pub is_value : (v : ℕ) → ℤ → Bool
is_value v (pos n) = eqb n v
is_value v (negsuc n) = false

abbrev pub is_number : (n : ℕ) → ℤ → Bool
is_number n z = is_value (n * parts) z

-- the slot of a G word by its value: G01 is G1
abbrev pub slot_of_g : ℤ → Option ℕ
slot_of_g z =
    cond (is_number 0 z || is_number 1 z) (Some motion_slot)
    (cond (is_number 20 z || is_number 21 z) (Some unit_slot)
    (cond (is_number 90 z || is_number 91 z) (Some way_slot) None))

-- the slot of an axis by its letter, an ASCII byte
abbrev pub axis_slot : (letter : ℕ) → Option ℕ
axis_slot letter = cond (eqb letter 88) (Some x_slot) (cond (eqb letter 89) (Some y_slot) (cond (eqb letter 90) (Some z_slot) None))

-- the slot of a word by its letter and its number
abbrev pub slot_of : (letter : ℕ) → ℤ → Option ℕ
slot_of letter z = cond (eqb letter 71) (slot_of_g z) (cond (eqb letter 78) (Some line_slot) (cond (eqb letter 70) (Some feed_slot) (axis_slot letter)))

-- the words of a line: whether one stands in each slot, and its number, ten-thousandths
pub record Words : Type 0 where
  pub stands : List Bool
  pub values : List ℤ

abbrev pub words_by : List Bool → List ℤ → Words
words_by stands values = record { stands = stands; values = values }

-- those of a list with the number of the word in each slot, or none
abbrev pub words_in : List (Option ℤ) → Words
words_in words = words_by (map is_some words) (map (λ w. unwrap_or w (pos 0)) words)

-- the numbers of words that stand, laid over others: a slot without a word shows the number below
abbrev pub laid : List Bool → (numbers below : List ℤ) → List ℤ
laid [] numbers below = []
laid (t ∷ stands) [] below = []
laid (t ∷ stands) (z ∷ numbers) [] = []
laid (t ∷ stands) (z ∷ numbers) (y ∷ below) = cond t z y ∷ laid stands numbers below

-- words whose numbers are laid over others
abbrev pub over : (below : List ℤ) → Words → Words
over below w = words_by w.stands (laid w.stands w.values below)

-- a line without words, and one with a further word
abbrev pub no_words : Words
no_words = words_by (replicate slots false) (replicate slots (pos 0))

abbrev pub filled : (slot : ℕ) → ℤ → Words → Words
filled k z w = words_by (set w.stands k true) (set w.values k z)

-- a word in its slot: 12 where it is not listed, or one stands there already
abbrev pub with_slot : Option ℕ → ℤ → Words → Outcome ℕ Words
with_slot None z w = refused 12
with_slot (Some k) z w = cond (get_or w.stands k false) (refused 12) (given (filled k z w))

-- a word by its letter and its number: 13 where that is badly formed, before 12
abbrev pub with_number : (letter : ℕ) → Option ℤ → Words → Outcome ℕ Words
with_number letter None w = refused 13
with_number letter (Some z) w = with_slot (slot_of letter z) z w

unfoldable pub with_word : (letter : ℕ) (numerals : List ℕ) → Words → Outcome ℕ Words
with_word letter numerals w = with_number letter (number_in numerals) w

-- what reading comes to: the number on the display, 0 where nothing is faulty, and the words before the fault, or all
pub record Scan : Type 0 where
  pub number : ℕ
  pub words : Words

abbrev pub scan : ℕ → Words → Scan
scan n w = record { number = n; words = w }

-- the pieces from the left, behind words that are right: the first that is faulty decides
unfoldable pub with_pieces : List Piece → Words → Scan
with_pieces [] w = scan 0 w
with_pieces (stray b ∷ rest) w = scan 12 w
with_pieces (word letter numerals ∷ rest) w = elim (with_word letter numerals w) [ given v ↦ with_pieces rest v | refused n ↦ scan n w ]

-- a line behind words that are right, and a line alone
unfoldable pub behind_words : List ℕ → Words → Scan
behind_words line w = with_pieces (pieces_of line) w

abbrev pub words_of : List ℕ → Scan
words_of line = behind_words line no_words

-- a slot that is one of a line's
abbrev pub InLine : Option ℕ → Type 0
InLine None = Unit {0}
InLine (Some k) = k < slots
