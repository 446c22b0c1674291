-- Document 02, Q-1: what a text is answered, the records that are written of it, and the tape that limits and a text make.
use Rattle.std.specs.Prelude.{◌≡◌, List, ◌∷◌, ◌++◌, [], ℕ, ◌*◌, length, take, drop, Result, Ok, Err}
use Rattle.display.specs.Display.{refusal_number, by_number, placed_outcome_of, Outcome, given, refused, Fault, ◌at◌, ◌else◌}
use Rattle.fields.specs.Bytes.{bytes_of}
use Rattle.machine.specs.declared.Block.{Block}
use Rattle.tape.specs.Tape.{limits_bytes, record_bytes, block_number}
use Rattle.tape.specs.Answers.{ragged_below, limits_read_refusal}
use Rattle.text.specs.Store.{Stored}
use Rattle.text.specs.Text.{refused_at}
use Rattle.rs274.specs.Text.{text_run}
use Rattle.display.specs.declared.RefusedAt.{RefusedAt}

-- the blocks of a text, none where it has a fault
abbrev pub blocks_in : Outcome Fault (List Block) → List Block
blocks_in (given blocks) = blocks
blocks_in (refused f) = []

unfoldable pub text_blocks : List ℕ → List Block
text_blocks text = blocks_in (text_run text)

-- the fault of its lines, where it has one
abbrev pub fault_in : Outcome Fault (List Block) → Fault
fault_in (given blocks) = 0 at 0
fault_in (refused f) = f

unfoldable pub lines_fault : List ℕ → Fault
lines_fault text = fault_in (text_run text)

-- blocks as records, one behind the other
unfoldable pub records_of : List Block → List ℕ
records_of [] = []
records_of (b ∷ blocks) = bytes_of record_bytes (block_number b) ++ records_of blocks

-- a text with a list lent for its records: the fault of its lines, and after all lines 9 where the list is too short
unfoldable pub text_fault : (text lent : List ℕ) → Fault
text_fault text lent = lines_fault text else ragged_below (record_bytes * length (text_blocks text)) lent at 0

-- what is answered: the number of its blocks, or the fault
unfoldable pub text_answer : (text lent : List ℕ) → Outcome Fault ℕ
text_answer text lent = by_number (text_fault text lent).number (given (length (text_blocks text))) (refused (text_fault text lent))

-- the lent list afterwards: the records from its first byte on, all or none
unfoldable pub text_written : (text lent : List ℕ) → List ℕ
text_written text lent =
    by_number (text_fault text lent).number (records_of (text_blocks text) ++ drop (record_bytes * length (text_blocks text)) lent) lent

-- a writer answers r of a text and leaves the lent list so
pub record WroteText (text lent : List ℕ) (r : Result ℕ RefusedAt) (left : List ℕ) : Type 0 where
  pub answer : placed_outcome_of r ≡ text_answer text lent
  pub bytes : left ≡ text_written text lent

-- what limits, as bytes of which the first 24 count, and a text make: the tape, or the line of the refusal; that of the limits comes first
unfoldable pub tape_fault : (head text : List ℕ) → Fault
tape_fault head text = limits_read_refusal head at 0 else lines_fault text

unfoldable pub tape_or_line : (head text : List ℕ) → List ℕ
tape_or_line head text =
    by_number (tape_fault head text).number (take limits_bytes head ++ records_of (text_blocks text))
    (refused_at (tape_fault head text).number (tape_fault head text).place)

-- limits and a text make a tape of so many bytes at the beginning of the lent ones; or they are refused, and the lent bytes stay
abbrev pub Makes : (head text lent : List ℕ) → Result ℕ RefusedAt → (left : List ℕ) → Type 0
Makes head text lent (Ok end) left = Stored lent 0 (tape_or_line head text) end left
Makes head text lent (Err r) left = (left ≡ lent) × (refused_at (refusal_number r.why) r.place ≡ tape_or_line head text)
