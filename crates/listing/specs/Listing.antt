-- Document 01's listing of a whole tape, as bytes.
use Rattle.std.specs.Prelude.{List, ◌∷◌, ◌++◌, [], ℕ, drop}
use Rattle.profile.specs.Line.{number_at}
use Rattle.machine.specs.declared.Block.{Block}
use Rattle.machine.specs.declared.Machine.{Machine}
use Rattle.line.specs.Answers.{given_of}
use Rattle.text.specs.Text.{header, refused_at}
use Rattle.given_text.specs.Given.{given_text}
use Rattle.tape.specs.Tape.{tape_blocks}
use Rattle.display.specs.Display.{by_number}
use Rattle.tapeplan.specs.Planned.{tape_machine, tape_plan, whole_place, whole_refusal}

-- a line for each block, in order, with the plan's numbers at its two ends as entry and exit
unfoldable pub lines_of : Machine → List Block → (plan : List ℕ) → List ℕ
lines_of m [] plan = []
lines_of m (b ∷ rest) plan = given_text (given_of m b (number_at plan 0) (number_at plan 1)) ++ lines_of m rest (drop 1 plan)

-- what is listed of an accepted tape
abbrev pub accepted_text : (s loaded : List ℕ) → List ℕ
accepted_text s loaded = header ++ lines_of (tape_machine s loaded) (tape_blocks s) (tape_plan s loaded)

-- the listing of any bytes with any bytes for steps: of an accepted tape, or the refusal's line
unfoldable pub listing_of : (s loaded : List ℕ) → List ℕ
listing_of s loaded = by_number (whole_refusal s loaded) (accepted_text s loaded) (refused_at (whole_refusal s loaded) (whole_place s loaded))
