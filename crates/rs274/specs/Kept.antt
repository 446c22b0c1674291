-- The records that are kept until the whole text is read.
use Rattle.std.specs.Prelude.{◌≡◌, cond, List, ◌++◌, ℕ, ◌*◌, ◌≤◌, nat_abs, ltb, length, take, drop, Result, Ok, Err, ⊤}
use Rattle.display.specs.Display.{refusal_number, fault_of, placed_outcome_of, Outcome, given, refused, Fault, ◌at◌}
use Rattle.display.specs.declared.Refusal.{Refusal}
use Rattle.display.specs.declared.RefusedAt.{RefusedAt}
use Rattle.machine.specs.Ranges.{most_move}
use Rattle.machine.specs.declared.Block.{Block}
use Rattle.tape.specs.Tape.{record_bytes}
use Rattle.tape.specs.Answers.{most_blocks}
use Rattle.rs274.specs.Answers.{records_of}
use Rattle.rs274.specs.Modal.{rounded_of}
use Rattle.rs274.specs.Text.{Run}
use Rattle.rs274.specs.declared.Modal.{Modal}
use Rattle.rs274.specs.declared.kept.Kept.{Kept}

-- their bytes: as many records as a tape has at most
abbrev pub kept_bytes : ℕ
kept_bytes = record_bytes * most_blocks

-- the bytes hold the records of these blocks, so many, from the first one on
pub record Holds (made : List ℕ) (count : ℕ) (blocks : List Block) : Type 0 where
  pub sized : length made ≡ kept_bytes
  pub counted : length blocks ≡ count
  pub few : count ≤ most_blocks
  pub stored : take (record_bytes * count) made ≡ records_of blocks

-- after so many blocks a position is within what they moved
pub record Near (count : ℕ) (m : Modal) : Type 0 where
  pub x : nat_abs (rounded_of m.x) ≤ most_move * count
  pub y : nat_abs (rounded_of m.y) ≤ most_move * count
  pub z : nat_abs (rounded_of m.z) ≤ most_move * count

-- keeping a block comes to what the blocks with it are
abbrev pub Keeps : Outcome ℕ (List Block) → Result ⊤ Refusal → Kept → Type 0
Keeps (given blocks) (Ok _) kept = Holds kept.bytes kept.count blocks
Keeps (given blocks) (Err why) kept = ⊥
Keeps (refused n) (Ok _) kept = ⊥
Keeps (refused n) (Err why) kept = refusal_number why ≡ n

-- taking a line comes to what the run with it is
abbrev pub Takes : Outcome ℕ Run → Result Modal Refusal → Kept → Type 0
Takes (given r) (Ok m) kept = (r.modal ≡ m) × (Near kept.count m × Holds kept.bytes kept.count r.blocks)
Takes (given r) (Err why) kept = ⊥
Takes (refused n) (Ok m) kept = ⊥
Takes (refused n) (Err why) kept = refusal_number why ≡ n

-- reading a whole text comes to what it is
abbrev pub Reads : Outcome Fault (List Block) → Result ⊤ RefusedAt → Kept → Type 0
Reads (given blocks) (Ok _) kept = Holds kept.bytes kept.count blocks
Reads (given blocks) (Err r) kept = ⊥
Reads (refused f) (Ok _) kept = ⊥
Reads (refused f) (Err r) kept = fault_of r ≡ f

-- the kept records, so many, are written at the beginning of the lent list, or 9 is answered at place 0 and it stays
pub record WroteKept (count : ℕ) (records lent : List ℕ) (r : Result ℕ RefusedAt) (left : List ℕ) : Type 0 where
  pub answer : placed_outcome_of r ≡ cond (ltb (length lent) (length records)) (refused (9 at 0)) (given count)
  pub bytes : left ≡ cond (ltb (length lent) (length records)) lent (records ++ drop (length records) lent)
