-- What the definitions of a text mean, for the laws that say so.
use Rattle.std.specs.Prelude.{◌≡◌, Bool, List, ℕ, ◌*◌, ◌≤◌, ℤ, pos, nat_abs}
use Rattle.std.specs.Int.Signed.{lt_z}
use Rattle.arith.specs.Nearest.{NearestHalfUp}
use Rattle.arith.specs.Signed.{or_zero, signed_by}
use Rattle.machine.specs.declared.Block.{Block}
use Rattle.machine.specs.declared.Limits.{Limits}
use Rattle.tape.specs.Answers.{tape_refusal}
use Rattle.tape.specs.Tape.{tape_blocks, tape_limits}
use Rattle.words.specs.Number.{parts}
use Rattle.rs274.specs.Modal.{hundredths, unit_of}

-- A rounded position has the position's sign, and its size, µm, is the whole number nearest to the position's, hundredths of a µm: an exact half goes up,
-- which is away from zero.
pub record NearestMicron (z rounded : ℤ) : Type 0 where
  pub size : NearestHalfUp (nat_abs z) hundredths (nat_abs rounded)
  pub sign : rounded ≡ signed_by (lt_z z (pos 0)) (nat_abs rounded)

-- A feed is the largest whole number of µm/s that is not above its number, ten-thousandths of its unit per minute.
pub record LargestFeed (inches : Bool) (v : ℤ) (feed : ℕ) : Type 0 where
  pub not_above : feed * (60 * parts) ≤ or_zero v * unit_of inches
  pub largest : (f : ℕ) → f * (60 * parts) ≤ or_zero v * unit_of inches → f ≤ feed

-- What a tape has that limits and a text make.
pub record TapeOf (tape : List ℕ) (l : Limits) (blocks : List Block) : Type 0 where
  pub passes : tape_refusal tape ≡ 0
  pub limits : tape_limits tape ≡ l
  pub says : tape_blocks tape ≡ blocks
