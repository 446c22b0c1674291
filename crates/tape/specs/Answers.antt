-- Document 01, "Numbers on the display": what reading, writing and checking a tape answer.
use Rattle.std.specs.Prelude.{ℕ, suc, ◌-◌, ◌%◌, ◌≡◌, not, cond, ◌||◌, List, ◌∷◌, ◌++◌, [], ltb, eqb, length, take, drop, Result, ⊤}
use Rattle.display.specs.Display.{checked_means, by_number, ◌then◌, Outcome, or_refused, Fault, ◌at◌, ◌else◌, given, refused}
use Rattle.fields.specs.Bytes.{with_bytes}
use Rattle.machine.specs.Checks.{limits_refusal, block_refusal}
use Rattle.machine.specs.declared.Limits.{Limits}
use Rattle.machine.specs.declared.Block.{Block}
use Rattle.display.specs.declared.Refusal.{Refusal}
use Rattle.tape.specs.Tape.{limits_bytes, limits_number, limits_at, zero_bits, record_bytes, block_number, block_at, record_start, records_in, tape_blocks}

-- 9 where fewer bytes than n are lent, else 0
abbrev pub ragged_below : (n : ℕ) → List ℕ → ℕ
ragged_below n s = cond (ltb (length s) n) 9 0

-- 1 where a limit on tape is outside its range or a zero bit is set, else 0
unfoldable pub limits_fault : List ℕ → ℕ
limits_fault s = cond (eqb (zero_bits s) 0) (limits_refusal (limits_at s)) 1

-- reading limits, or a record, alone: 9, then what is wrong in the fields
unfoldable pub limits_read_refusal : List ℕ → ℕ
limits_read_refusal s = ragged_below limits_bytes s then limits_fault s

unfoldable pub record_read_refusal : List ℕ → ℕ
record_read_refusal s = ragged_below record_bytes s then block_refusal (block_at s)

-- writing limits, or a record: what is wrong in the fields, then 9
unfoldable pub limits_write_refusal : Limits → List ℕ → ℕ
limits_write_refusal l s = limits_refusal l then ragged_below limits_bytes s

unfoldable pub record_write_refusal : Block → List ℕ → ℕ
record_write_refusal b s = block_refusal b then ragged_below record_bytes s

-- the lent bytes after writing: the first, those of the limits or of the record, are stored, and none where it is refused
unfoldable pub limits_written : Limits → List ℕ → List ℕ
limits_written l s = by_number (limits_write_refusal l s) (with_bytes s 0 limits_bytes (limits_number l)) s

unfoldable pub record_written : Block → List ℕ → List ℕ
record_written b s = by_number (record_write_refusal b s) (with_bytes s 0 record_bytes (block_number b)) s

-- writing record k of a tape, k counted from 0: the same of the part that begins at that record, and the bytes before it stay
unfoldable pub tape_write_refusal : Block → (k : ℕ) → List ℕ → ℕ
tape_write_refusal b k s = record_write_refusal b (drop (record_start k) s)

unfoldable pub tape_written : Block → (k : ℕ) → List ℕ → List ℕ
tape_written b k s = take (record_start k) s ++ record_written b (drop (record_start k) s)

-- a writer answers r, whose number is n, and leaves the lent bytes as t
pub record Wrote (n : ℕ) (t : List ℕ) (r : Result ⊤ Refusal) (left : List ℕ) : Type 0 where
  pub number : checked_means r ≡ n
  pub bytes : left ≡ t

-- what bytes are answered that are read as limits
unfoldable pub read_limits : List ℕ → Outcome ℕ Limits
read_limits s = or_refused (limits_read_refusal s) (limits_at s)

-- and that are read as a record
unfoldable pub read_record : List ℕ → Outcome ℕ Block
read_record s = or_refused (record_read_refusal s) (block_at s)

-- the records in turn: the first fault of these blocks, the first of which has place p
unfoldable pub fault_from : (p : ℕ) → List Block → Fault
fault_from p [] = 0 at 0
fault_from p (b ∷ rest) = block_refusal b at p else fault_from (suc p) rest

-- most blocks on a tape, and the greatest length of a tape in bytes
abbrev pub most_blocks : ℕ
most_blocks = 2048

abbrev pub most_bytes : ℕ
most_bytes = record_start most_blocks

-- 10 where a tape is longer, else 0
abbrev pub many_in : List ℕ → ℕ
many_in s = cond (ltb most_bytes (length s)) 10 0

-- 9 where a tape has no whole limits, or ends inside a record, else 0
abbrev pub ragged_in : List ℕ → ℕ
ragged_in s = cond (ltb (length s) limits_bytes || not (eqb ((length s - limits_bytes) % record_bytes) 0)) 9 0

-- a whole tape: 10, 9 and 1, which come before its records
unfoldable pub head_refusal : List ℕ → ℕ
head_refusal s = many_in s then ragged_in s then limits_fault s

-- and then the records in turn
unfoldable pub tape_fault : List ℕ → Fault
tape_fault s = head_refusal s at 0 else fault_from 1 (tape_blocks s)

-- its number
abbrev pub tape_refusal : List ℕ → ℕ
tape_refusal s = (tape_fault s).number

-- what reading its head answers: the limits, or the number
unfoldable pub read_head : List ℕ → Outcome ℕ Limits
read_head s = or_refused (head_refusal s) (limits_at s)

-- what a tape s is answered whose fault is f: the number of its blocks where there is none
abbrev pub by_fault : Fault → List ℕ → Outcome Fault ℕ
by_fault f s = by_number f.number (given (records_in s)) (refused f)

-- by the records alone, and by the whole tape
unfoldable pub check_records : List ℕ → Outcome Fault ℕ
check_records s = by_fault (fault_from 1 (tape_blocks s)) s

unfoldable pub check_tape : List ℕ → Outcome Fault ℕ
check_tape s = by_fault (tape_fault s) s
