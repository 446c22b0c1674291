-- A tape's listing in parts: what is kept of the tape, and the text of each part, whatever is kept.
use Rattle.std.specs.Prelude.{◌≡◌, cond, List, [], ◌++◌, ℕ, zero, suc, ◌+◌, ◌-◌, ◌*◌, ◌/◌, ◌<◌, min, ltb, ⊤, Result, Ok, Err}
use Rattle.profile.specs.Line.{number_at}
use Rattle.display.specs.Display.{refusal_number}
use Rattle.tape.specs.Tape.{records_in}
use Rattle.tape.specs.Answers.{most_blocks}
use Rattle.tapeplan.specs.Planned.{WholeTape, whole_refusal}
use Rattle.tapeplan.specs.Sheet.{measured_at}
use Rattle.tapeplan.specs.declared.Measured.{Measured}
use Rattle.line.specs.Answers.{ramp_between}
use Rattle.machine.specs.declared.Ramp.{Ramp}
use Rattle.text.specs.Text.{header, refused_at, row}
use Rattle.given_text.specs.Given.{listed_numbers, most_given}
use Rattle.given_text.specs.declared.Listed.{Listed}
use Rattle.display.specs.declared.RefusedAt.{RefusedAt}
use Rattle.listing.specs.declared.Listing.{Listing}

-- lines of a part at most, and parts of the longest listing
abbrev pub part_blocks : ℕ
part_blocks = 128

abbrev pub most_parts : ℕ
most_parts = most_blocks / part_blocks

-- bytes of the header, and of the text that is lent: as many longest lines more as a part has
abbrev pub header_size : ℕ
header_size = 49

abbrev pub part_size : ℕ
part_size = header_size + part_blocks * most_given

-- what the line of a row of a sheet shows, between two speeds
abbrev pub listed_row : Measured → (entry exit : ℕ) → Ramp → Listed
listed_row r entry exit ramp =
    record { mark = r.mark; length = r.numbers.length; accel = r.numbers.accel; entry = entry; exit = exit; ramp = ramp }

-- the line of row k of a sheet, between the plan's numbers at the block's two ends
abbrev pub line_of : (sheet : List Measured) (plan : List ℕ) (k : ℕ) → List ℕ
line_of sheet plan k =
    let r = measured_at sheet k in
    row (listed_numbers (listed_row r (number_at plan k) (number_at plan (k + 1)) (ramp_between r.numbers (number_at plan k) (number_at plan (k + 1)))))

-- the lines of n rows from row k on; there is none behind the last of the blocks
unfoldable pub row_lines : (blocks : ℕ) (sheet : List Measured) (plan : List ℕ) (k n : ℕ) → List ℕ
row_lines blocks sheet plan k zero = []
row_lines blocks sheet plan k (suc n) = cond (ltb k blocks) (line_of sheet plan k) [] ++ row_lines blocks sheet plan (suc k) n

-- what stands in part 0 only
abbrev pub only_first : (p : ℕ) → List ℕ → List ℕ
only_first zero text = text
only_first (suc p) text = []

-- the header, in part 0
abbrev pub head_in : (p : ℕ) → List ℕ
head_in p = only_first p header

-- how many rows part p may list, to the last of the longest tape
abbrev pub part_lines : (p : ℕ) → ℕ
part_lines p = min part_blocks (most_blocks - part_blocks * p)

-- part p of a tape that was planned
unfoldable pub planned_part : (blocks : ℕ) (sheet : List Measured) (plan : List ℕ) (p : ℕ) → List ℕ
planned_part blocks sheet plan p = head_in p ++ row_lines blocks sheet plan (part_blocks * p) (part_lines p)

-- part p of any listing: of a refused tape only the refusal's line, in part 0
abbrev pub answer_part : Result ⊤ RefusedAt → Listing → (sheet : List Measured) (plan : List ℕ) (p : ℕ) → List ℕ
answer_part (Ok tt) listing sheet plan p = planned_part listing.blocks sheet plan p
answer_part (Err r) listing sheet plan p = only_first p (refused_at (refusal_number r.why) r.place)

abbrev pub part_of : Listing → (sheet : List Measured) (plan : List ℕ) (p : ℕ) → List ℕ
part_of listing sheet plan p = answer_part listing.planned listing sheet plan p

-- n parts from part p on, one behind the other
unfoldable pub parts_of : Listing → (sheet : List Measured) (plan : List ℕ) (p n : ℕ) → List ℕ
parts_of listing sheet plan p zero = []
parts_of listing sheet plan p (suc n) = part_of listing sheet plan p ++ parts_of listing sheet plan (suc p) n

-- a tape planned into a lent sheet and a lent plan: if it is refused, the sheet too is what it was
pub record LentTape (s loaded : List ℕ) (sheet sheet' : List Measured) (before after : List ℕ) (r : Result ⊤ RefusedAt) : Type 0 where
  pub whole : WholeTape s loaded sheet sheet' before after r
  pub kept : 0 < whole_refusal s loaded → sheet' ≡ sheet

-- what is kept of a tape and loaded torque steps: the answer of planning it, the number of its blocks, and the sheet and the plan that were lent
pub record ListingFrom (s loaded : List ℕ) (sheet sheet' : List Measured) (before after : List ℕ) (listing : Listing) : Type 0 where
  pub lent : LentTape s loaded sheet sheet' before after listing.planned
  pub blocks : listing.blocks ≡ min (records_in s) most_blocks
