-- The line of a block given out.
use Rattle.std.specs.Prelude.{List, ◌∷◌, [], ℕ, ◌+◌, ◌*◌, ◌≤◌}
use Rattle.line.specs.declared.Given.{Given}
use Rattle.text.specs.Text.{row}
use Rattle.text.specs.Store.{Stored}
use Rattle.given_text.specs.declared.Listed.{Listed}

-- what the line shows of a block given out
abbrev pub listed_of : Given → Listed
listed_of g = record { mark = g.block.mark; length = g.length; accel = g.accel; entry = g.entry; exit = g.exit; ramp = g.ramp }

-- the nine numbers of the header, in its order: squared speeds in (µm/s)², lengths in µm, the acceleration in µm/s²
abbrev pub listed_numbers : Listed → List ℕ
listed_numbers l =
    l.mark
    ∷ l.length
    ∷ l.accel
    ∷ l.entry
    ∷ l.ramp.peak
    ∷ l.exit
    ∷ l.ramp.up
    ∷ l.ramp.cruise
    ∷ l.ramp.down
    ∷ []

-- their line
unfoldable pub given_text : Given → List ℕ
given_text g = row (listed_numbers (listed_of g))

-- most bytes of a row of n numbers of 64 bits, and of such a line
abbrev pub most_row : (n : ℕ) → ℕ
most_row n = 21 * n + 1

abbrev pub most_given : ℕ
most_given = most_row 9

-- a line that had room, stored from place `at` on
pub record WroteLine (line text : List ℕ) (at end : ℕ) (text' : List ℕ) : Type 0 where
  pub few : end ≤ at + most_given
  pub stored : Stored text at line end text'
