-- The sheet of a survey: what is measured of each block, a row for each.
use Rattle.std.specs.Prelude.{◌≡◌, List, ◌++◌, ℕ, zero, suc, ◌+◌, ◌<◌, ◌≤◌, length, get_or, drop}
use Rattle.machine.specs.Caps.{corner_between}
use Rattle.machine.specs.Numbers.{numbers_of, square_of}
use Rattle.machine.specs.declared.Machine.{Machine}
use Rattle.tape.specs.Answers.{most_blocks}
use Rattle.tape.specs.Tape.{record_at}
use Rattle.tapeplan.specs.declared.Measured.{Measured}

-- rows of a sheet with one for each block of the longest tape
abbrev pub sheet_size : ℕ
sheet_size = most_blocks

-- how many rows a sheet has, and what row k says
abbrev pub rows_in : List Measured → ℕ
rows_in sheet = length sheet

abbrev pub no_row : Measured
no_row = record { mark = 0; numbers = record { length = 0; accel = 0; reach = 0; cap = 0 }; square = 0; corner = 0 }

abbrev pub measured_at : List Measured → (k : ℕ) → Measured
measured_at sheet k = get_or sheet k no_row

-- the corner cap where block k of a tape begins, as a number beside the block caps of that junction; 0 for the first block, before which there is none
unfoldable pub corner_at : Machine → (s : List ℕ) (k : ℕ) → ℕ
corner_at m s zero = 0
corner_at m s (suc k) = corner_between m.limits (record_at s k) (record_at s (suc k))

-- what is measured of block k of a tape
abbrev pub measured_of : Machine → (s : List ℕ) (k : ℕ) → Measured
measured_of m s k =
    record {
      mark = (record_at s k).mark;
      numbers = numbers_of m (record_at s k);
      square = square_of m.limits (record_at s k);
      corner = corner_at m s k;
    }

-- the first k blocks of a tape are in the sheet, as far as it has rows, and the rows after them are what they were before
pub record Measures (m : Machine) (s : List ℕ) (before sheet : List Measured) (k : ℕ) : Type 0 where
  pub rows : (i : ℕ) → i < k → i < rows_in sheet → measured_at sheet i ≡ measured_of m s i
  pub later : (i : ℕ) → k ≤ i → measured_at sheet i ≡ measured_at before i

-- row k is stored if the sheet has one, and all other rows stay
pub record Keeps (before : List Measured) (k : ℕ) (row : Measured) (after : List Measured) : Type 0 where
  pub sized : length after ≡ length before
  pub kept : k < rows_in before → measured_at after k ≡ row
  pub others : (i : ℕ) → i < k → measured_at after i ≡ measured_at before i
  pub later : (i : ℕ) → k + 1 ≤ i → measured_at after i ≡ measured_at before i

-- a list over the beginning of another
abbrev pub over : (from to : List ℕ) → List ℕ
over from to = from ++ drop (length from) to
