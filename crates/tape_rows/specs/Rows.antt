-- A tape's list: for each block of a tape a row of numbers, one after the other.
use Rattle.std.specs.Prelude.{List, ◌∷◌, ◌++◌, [], ℕ, zero, suc, ◌+◌, ◌-◌, ◌*◌, min, ⊤, Result}
use Rattle.profile.specs.Line.{cap_at, number_at}
use Rattle.machine.specs.Numbers.{block_cap}
use Rattle.machine.specs.declared.Block.{Block}
use Rattle.machine.specs.declared.Ramp.{Ramp}
use Rattle.line.specs.Answers.{given_numbers, given_of, given_size, ramp_between}
use Rattle.line.specs.declared.Given.{Given}
use Rattle.tape.specs.Tape.{record_at, records_in, tape_limits}
use Rattle.tapeplan.specs.Planned.{FilledTape, tape_machine, tape_plan, tape_spans}
use Rattle.tapeplan.specs.Sheet.{measured_at}
use Rattle.tapeplan.specs.declared.Measured.{Measured}
use Rattle.display.specs.declared.RefusedAt.{RefusedAt}

-- block k of an accepted tape as it is given out with loaded torque steps
abbrev pub row_of : (s loaded : List ℕ) (k : ℕ) → Given
row_of s loaded k = given_of (tape_machine s loaded) (record_at s k) (number_at (tape_plan s loaded) k) (number_at (tape_plan s loaded) (k + 1))

-- numbers of a row: those of a block given out, and two more
abbrev pub row_size : ℕ
row_size = given_size + 2

-- a row: the numbers of a block given out, its cap, and the cap of the junction where it begins, (µm/s)²
abbrev pub row_from : Given → (cap junction : ℕ) → List ℕ
row_from g cap junction = given_numbers g ++ cap ∷ junction ∷ []

-- n rows from row k on
unfoldable pub rows_from : (row : ℕ → List ℕ) (k n : ℕ) → List ℕ
rows_from row k zero = []
rows_from row k (suc n) = row k ++ rows_from row (suc k) n

-- block k of an accepted tape as it is listed with loaded torque steps; the cap where the first begins is 0, since a tape begins at rest
abbrev pub row_numbers : (s loaded : List ℕ) (k : ℕ) → List ℕ
row_numbers s loaded k = row_from (row_of s loaded k) (block_cap (tape_limits s) (record_at s k)) (cap_at (tape_spans s loaded) k)

-- all of them, and how many numbers they are
abbrev pub tape_rows : (s loaded : List ℕ) → List ℕ
tape_rows s loaded = rows_from (row_numbers s loaded) 0 (records_in s)

abbrev pub rows_size : (s : List ℕ) → ℕ
rows_size s = row_size * records_in s

-- a lent list of as many numbers, else 11, gets them
abbrev pub ListedTape : (s loaded before after : List ℕ) → Result ⊤ RefusedAt → Type 0
ListedTape s loaded before after r = FilledTape s loaded (rows_size s) (tape_rows s loaded) before after r

-- the row of what is measured of a block, between two speeds with the ramp between them
abbrev pub shown_row : Block → Measured → (entry exit : ℕ) → Ramp → (junction : ℕ) → List ℕ
shown_row b r entry exit ramp junction =
    b.feed
    ∷ b.radius
    ∷ r.mark
    ∷ r.numbers.length
    ∷ r.numbers.accel
    ∷ entry
    ∷ exit
    ∷ ramp.peak
    ∷ ramp.up
    ∷ ramp.cruise
    ∷ ramp.down
    ∷ r.numbers.cap
    ∷ junction
    ∷ []

-- row k as it is made from a sheet and a list of speeds: the laws `row_is` and `planned_rows` say that it is that of the tape
abbrev pub sheet_row : (s : List ℕ) (sheet : List Measured) (plan : List ℕ) (k : ℕ) → List ℕ
sheet_row s sheet plan k =
    shown_row
    (record_at s k)
    (measured_at sheet k)
    (number_at plan k)
    (number_at plan (k + 1))
    (ramp_between (measured_at sheet k).numbers (number_at plan k) (number_at plan (k + 1)))
    (min (min (measured_at sheet (k - 1)).numbers.cap (measured_at sheet k).numbers.cap) (measured_at sheet k).corner)
