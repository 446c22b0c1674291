-- The line of what is measured of a block of an accepted tape is the line of the block as it is given out. From the law of its ramp.
use mathlib.Core.Path.{◌≡◌, ap}
use mathlib.Core.List.{List}
use Prim.Native.Nat.{ℕ, ◌+◌, ◌<◌}
use Rattle.profile.specs.Line.{number_at}
use Rattle.machine.specs.Numbers.{numbers_of}
use Rattle.machine.specs.declared.Ramp.{Ramp}
use Rattle.line.specs.Answers.{given_of, ramp_between}
use Rattle.text.specs.Text.{row}
use Rattle.tape.specs.Tape.{record_at, records_in}
use Rattle.tape.specs.Answers.{tape_refusal}
use Rattle.tapeplan.specs.Planned.{tape_machine, tape_plan}
use Rattle.tapeplan.specs.Sheet.{measured_of}
use Rattle.given_text.specs.Given.{given_text, listed_numbers}
use Rattle.tape_rows.specs.Rows.{row_of}
use Rattle.tape_rows.proofs.Plans.{ramp_between_lem}
use Rattle.listing.specs.Parts.{listed_row}

module _ (s loaded : List ℕ) (passed : tape_refusal s ≡ 0) where
  abbrev speed : ℕ → ℕ
  speed k = number_at (tape_plan s loaded) k

  pub row_between : (k : ℕ) → k < records_in s
      → row (listed_numbers (listed_row (measured_of (tape_machine s loaded) s k) (speed k) (speed (k + 1)) (ramp_between (numbers_of (tape_machine s loaded) (record_at s k)) (speed k) (speed (k + 1))))) ≡ given_text (row_of s loaded k)
  unfolding given_of given_text
  row_between k h = ap (λ (r : Ramp). row (listed_numbers (listed_row (measured_of (tape_machine s loaded) s k) (speed k) (speed (k + 1)) r))) (ramp_between_lem s loaded passed k h)
