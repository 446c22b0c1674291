-- The blocks of an accepted tape between their two speeds: each has the ramp between them, and up, cruise and down make up its length. From the laws of an accepted tape's plan and of ramps.
use mathlib.Core.Path.{◌≡◌, refl}
use mathlib.Core.List.{List}
use Prim.Native.Nat.{ℕ, ◌+◌, ◌<◌}
use Rattle.profile.specs.Line.{number_at}
use Rattle.machine.specs.Meaning.{RampIs}
use Rattle.machine.specs.Numbers.{numbers_of}
use Rattle.machine.specs.declared.Block.{Block}
use Rattle.machine.proofs.RampLaws.{ramp_is}
use Rattle.machine.proofs.Rampables.{rampable_holds}
use Rattle.line.specs.Answers.{given_of, ramp_between}
use Rattle.tape.specs.Tape.{record_at, records_in}
use Rattle.tape.specs.Answers.{tape_refusal}
use Rattle.tapeplan.specs.Planned.{tape_machine, tape_plan}
use Rattle.tapeplan.proofs.Plans.{accepted_ramps}
use Rattle.tape_rows.specs.Rows.{row_of}

module _ (s loaded : List ℕ) (passed : tape_refusal s ≡ 0) where
  abbrev block : ℕ → Block
  block k = record_at s k

  abbrev speed : ℕ → ℕ
  speed k = number_at (tape_plan s loaded) k

  -- between its two speeds a ramp exists
  pub ramp_between_lem : (k : ℕ) → k < records_in s
      → ramp_between (numbers_of (tape_machine s loaded) (block k)) (speed k) (speed (k + 1)) ≡ (row_of s loaded k).ramp
  unfolding given_of
  ramp_between_lem k h = rw (rampable_holds (numbers_of (tape_machine s loaded) (block k)) (speed k) (speed (k + 1)) (accepted_ramps s loaded passed k h))

  -- the ramp of each is the one between its speeds, up and down to the nearest
  pub rows_ramp : (k : ℕ) → k < records_in s → RampIs (numbers_of (tape_machine s loaded) (block k)) (speed k) (speed (k + 1)) (row_of s loaded k).ramp
  unfolding given_of numbers_of
  rows_ramp k h = ramp_is (numbers_of (tape_machine s loaded) (block k)) (speed k) (speed (k + 1)) (accepted_ramps s loaded passed k h) refl

  -- up, cruise and down make up the block
  pub rows_fill : (k : ℕ) → k < records_in s → (row_of s loaded k).ramp.up + (row_of s loaded k).ramp.cruise + (row_of s loaded k).ramp.down ≡ (row_of s loaded k).length
  unfolding given_of numbers_of
  rows_fill k h = (rows_ramp k h).fills
