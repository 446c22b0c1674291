-- What the function for C on texts returns and leaves in the lists that it is lent.
use Rattle.std.specs.Prelude.{List, ◌∷◌, [], ◌≡◌, ℕ, length}
use Rattle.display.specs.Display.{by_number}
use Rattle.rs274.specs.Answers.{text_blocks, text_fault, text_written}

-- A text with a list lent for its records: the number on the display, the line at fault, the records, all or none, and the number of blocks in
-- its list where they are written.
pub record TextLent (text : List ℕ) (number : ℕ) (records records' blocks blocks' place' : List ℕ) : Type 0 where
  pub number_is : number ≡ (text_fault text records).number
  pub place_is : place' ≡ (text_fault text records).place ∷ []
  pub records_are : records' ≡ text_written text records
  pub blocks_are : blocks' ≡ by_number (text_fault text records).number (length (text_blocks text) ∷ []) blocks
