-- Document 02, Q-1: the lines of a text end in a line feed, the last perhaps without.
use Rattle.std.specs.Prelude.{Bool, true, false, not, List, ◌∷◌, [], ℕ, eqb, drop}
use Rattle.text.specs.Text.{line_feed}
use Rattle.words.specs.Leading.{leading, behind}

-- a byte in front of a text's first line
abbrev pub in_front : ℕ → List (List ℕ) → List (List ℕ)
in_front b [] = (b ∷ []) ∷ []
in_front b (line ∷ lines) = (b ∷ line) ∷ lines

-- the lines of a text, without their line feeds
unfoldable pub lines_of : List ℕ → List (List ℕ)
lines_of [] = []
lines_of (b ∷ text) = elim (eqb b line_feed) [ true ↦ [] ∷ lines_of text | false ↦ in_front b (lines_of text) ]

-- a byte that does not end a line; the first line of a text, and the text behind that line and its line feed
abbrev pub in_line : ℕ → Bool
in_line b = not (eqb b line_feed)

abbrev pub first_line : List ℕ → List ℕ
first_line text = leading in_line text

abbrev pub behind_line : List ℕ → List ℕ
behind_line text = drop 1 (behind in_line text)
