-- Document 02, Q-1: the blocks of a text, line by line, or its first fault with the line's number from 1.
use Rattle.std.specs.Prelude.{cond, List, ◌∷◌, ◌++◌, [], ℕ, suc, ltb, eqb, length}
use Rattle.display.specs.Display.{by_number, ◌then◌, Outcome, given, refused, or_refused, Fault, ◌at◌}
use Rattle.machine.specs.Checks.{greatest_move, block_refusal}
use Rattle.machine.specs.declared.Block.{Block}
use Rattle.tape.specs.Answers.{most_blocks}
use Rattle.words.specs.Lines.{lines_of}
use Rattle.words.specs.Words.{Words, words_of}
use Rattle.rs274.specs.Modal.{begin, modal_after, block_between}
use Rattle.rs274.specs.declared.Modal.{Modal}

-- what the lines so far have led to
pub record Run : Type 0 where
  pub modal : Modal
  pub blocks : List Block

abbrev pub run_of : Modal → List Block → Run
run_of modal blocks = record { modal = modal; blocks = blocks }

-- 10 where there are as many blocks as a tape has at most, else 0
abbrev pub many_blocks : List Block → ℕ
many_blocks blocks = cond (ltb (length blocks) most_blocks) 0 10

-- a line's block behind the blocks so far: a zero difference yields none; 3 to 6 come before 10
unfoldable pub with_block : Block → List Block → Outcome ℕ (List Block)
with_block b blocks = cond (eqb (greatest_move b) 0) (given blocks) (or_refused (block_refusal b then many_blocks blocks) (blocks ++ b ∷ []))

-- the line of this number, by its words and as it stands: 12 and 13 come before all else of the line
unfoldable pub with_words : (place : ℕ) → Run → Words → Outcome ℕ Run
with_words p r w = elim (with_block (block_between r.modal (modal_after r.modal w) p) r.blocks) [
  | given blocks ↦ given (run_of (modal_after r.modal w) blocks)
  | refused n ↦ refused n
]

unfoldable pub with_line : (place : ℕ) → Run → List ℕ → Outcome ℕ Run
with_line p r line = by_number (words_of line).number (with_words p r (words_of line).words) (refused (words_of line).number)

-- the lines from this number on: the first faulty one decides
unfoldable pub with_lines : (place : ℕ) → Run → List (List ℕ) → Outcome Fault (List Block)
with_lines p r [] = given r.blocks
with_lines p r (line ∷ rest) = elim (with_line p r line) [ given next ↦ with_lines (suc p) next rest | refused n ↦ refused (n at p) ]

-- the blocks of a text, or its first fault
unfoldable pub text_run : List ℕ → Outcome Fault (List Block)
text_run text = with_lines 1 (run_of begin []) (lines_of text)
