-- What surveying a tape's records answers and leaves.
use Rattle.std.specs.Prelude.{◌≡◌, List, ℕ, take, Result}
use Rattle.machine.specs.Line.{spans_of}
use Rattle.machine.specs.declared.Machine.{Machine}
use Rattle.tape.specs.Tape.{records_in, tape_blocks}
use Rattle.display.specs.Display.{placed_outcome_of}
use Rattle.display.specs.declared.RefusedAt.{RefusedAt}
use Rattle.tape.specs.Answers.{fault_from, check_records}
use Rattle.profile.specs.declared.Span.{Span}
use Rattle.tapeplan.specs.Sheet.{Measures}
use Rattle.tapeplan.specs.declared.Measured.{Measured}

-- the records are checked in turn; where all pass, the line begins with the spans of the blocks, and the sheet has what
-- is measured of them
pub record Surveyed (m : Machine) (s : List ℕ) (before sheet : List Measured) (line : List Span) (r : Result ℕ RefusedAt) : Type 0 where
  pub answer : placed_outcome_of r ≡ check_records s
  pub spans : (fault_from 1 (tape_blocks s)).number ≡ 0 → take (records_in s) line ≡ spans_of m (tape_blocks s)
  pub measured : (fault_from 1 (tape_blocks s)).number ≡ 0 → Measures m s before sheet (records_in s)
