-- What the functions for C on limits and records as bytes return and leave in the lists that they are lent.
use Rattle.std.specs.Prelude.{List, [], ◌≡◌, ℕ, ℤ}
use Rattle.machine.specs.Lists.{limit_numbers}
use Rattle.tape.specs.Tape.{limits_at, block_at}
use Rattle.display.specs.Display.{by_number}
use Rattle.tape.specs.Answers.{limits_read_refusal, record_read_refusal}
use Rattle.fullerecru.specs.Moves.{block_moves, block_numbers}

-- limits read: the list is filled where nothing is refused, else as it was
pub record LimitsLent (bytes limits : List ℕ) (number : ℕ) (limits' : List ℕ) : Type 0 where
  pub number_is : number ≡ limits_read_refusal bytes
  pub limits_are : limits' ≡ by_number (limits_read_refusal bytes) (limit_numbers (limits_at bytes) []) limits

-- a record read, in the same way
pub record RecordLent (bytes : List ℕ) (number : ℕ) (moves moves' : List ℤ) (numbers numbers' : List ℕ) : Type 0 where
  pub number_is : number ≡ record_read_refusal bytes
  pub moves_are : moves' ≡ by_number (record_read_refusal bytes) (block_moves (block_at bytes)) moves
  pub numbers_are : numbers' ≡ by_number (record_read_refusal bytes) (block_numbers (block_at bytes)) numbers

-- limits or a record written: the number on the display, and all the lent bytes
pub record Written (refusal : ℕ) (written : List ℕ) (number : ℕ) (bytes' : List ℕ) : Type 0 where
  pub number_is : number ≡ refusal
  pub bytes_are : bytes' ≡ written
