-- Worked texts, which compute: each text, as bytes, with the blocks or the refusal that it comes to.
use mathlib.Core.Path.{◌≡◌, refl}
use mathlib.Core.List.{List, ◌∷◌, []}
use Prim.Native.Nat.{ℕ}
use lib.IntN.{ℤ, pos, negsuc}
use Rattle.display.specs.Display.{Outcome, given, refused, Fault, ◌at◌}
use Rattle.machine.specs.Checks.{greatest_move, block_refusal}
use Rattle.machine.specs.Labels.{plain_block}
use Rattle.machine.specs.declared.Block.{Block}
use Rattle.text.specs.Text.{value_behind}
use Rattle.words.specs.Lines.{lines_of}
use Rattle.words.specs.Number.{of_decimals, with_decimals, after_sign, number_in}
use Rattle.words.specs.Pieces.{pieces_from}
use Rattle.words.specs.Words.{with_word, with_pieces}
use Rattle.words.specs.Words as line
use Rattle.rs274.specs.Modal.{modal_after, position_of, length_in, feed_of, rounded_of, block_between}
use Rattle.rs274.specs.Text.{with_block, with_words, with_line, with_lines, text_run}

-- a block with radius 0
abbrev block : (x y z : ℤ) (feed mark : ℕ) → Block
block x y z feed mark = plain_block x y z feed 0 mark

data Case : Type 0 where
  case : (text : List ℕ) → (result : Outcome Fault (List Block)) → Case

runs : List Case → List (Outcome Fault (List Block))
runs [] = []
runs (case text result ∷ rest) = text_run text ∷ runs rest

expected : List Case → List (Outcome Fault (List Block))
expected [] = []
expected (case text result ∷ rest) = result ∷ expected rest

table : List Case
table =
    -- the last line may have a line feed or none: `F1200\nX1\nY1\n`
    case (70 ∷ 49 ∷ 50 ∷ 48 ∷ 48 ∷ 10 ∷ 88 ∷ 49 ∷ 10 ∷ 89 ∷ 49 ∷ 10 ∷ []) (given (block (pos 1000) (pos 0) (pos 0) 20000 2 ∷ block (pos 0) (pos 1000) (pos 0) 20000 3 ∷ []))
    -- what is in force stays so: `N10 G1 X1 Y2 F600\nG0 Z-0.5\nG91 X0.5`
    ∷ case (78 ∷ 49 ∷ 48 ∷ 32 ∷ 71 ∷ 49 ∷ 32 ∷ 88 ∷ 49 ∷ 32 ∷ 89 ∷ 50 ∷ 32 ∷ 70 ∷ 54 ∷ 48 ∷ 48 ∷ 10 ∷ 71 ∷ 48 ∷ 32 ∷ 90 ∷ 45 ∷ 48 ∷ 46 ∷ 53 ∷ 10 ∷ 71 ∷ 57 ∷ 49 ∷ 32 ∷ 88 ∷ 48 ∷ 46 ∷ 53 ∷ []) (given (block (pos 1000) (pos 2000) (pos 0) 10000 1 ∷ block (pos 0) (pos 0) (negsuc 499) 1000000 2 ∷ block (pos 500) (pos 0) (pos 0) 1000000 3 ∷ []))
    -- inches: `G20 F1 X1`
    ∷ case (71 ∷ 50 ∷ 48 ∷ 32 ∷ 70 ∷ 49 ∷ 32 ∷ 88 ∷ 49 ∷ []) (given (block (pos 25400) (pos 0) (pos 0) 423 1 ∷ []))
    -- a feed keeps the unit that it was set in: `G20 F10\nG21 X1`
    ∷ case (71 ∷ 50 ∷ 48 ∷ 32 ∷ 70 ∷ 49 ∷ 48 ∷ 10 ∷ 71 ∷ 50 ∷ 49 ∷ 32 ∷ 88 ∷ 49 ∷ []) (given (block (pos 1000) (pos 0) (pos 0) 4233 2 ∷ []))
    -- positions are exact: 0.4, 0.8 and 1.2 µm: `G91F60\nX0.0004\nX0.0004\nX0.0004\n`
    ∷ case (71 ∷ 57 ∷ 49 ∷ 70 ∷ 54 ∷ 48 ∷ 10 ∷ 88 ∷ 48 ∷ 46 ∷ 48 ∷ 48 ∷ 48 ∷ 52 ∷ 10 ∷ 88 ∷ 48 ∷ 46 ∷ 48 ∷ 48 ∷ 48 ∷ 52 ∷ 10 ∷ 88 ∷ 48 ∷ 46 ∷ 48 ∷ 48 ∷ 48 ∷ 52 ∷ 10 ∷ []) (given (block (pos 1) (pos 0) (pos 0) 1000 3 ∷ []))
    -- the half goes away from zero: `F60\nX0.0005\nX-0.0005`
    ∷ case (70 ∷ 54 ∷ 48 ∷ 10 ∷ 88 ∷ 48 ∷ 46 ∷ 48 ∷ 48 ∷ 48 ∷ 53 ∷ 10 ∷ 88 ∷ 45 ∷ 48 ∷ 46 ∷ 48 ∷ 48 ∷ 48 ∷ 53 ∷ []) (given (block (pos 1) (pos 0) (pos 0) 1000 2 ∷ block (negsuc 1) (pos 0) (pos 0) 1000 3 ∷ []))
    -- 2.54 µm four times: `G91 G20 F60 X0.0001\nX0.0001\nX0.0001\nX0.0001`
    ∷ case (71 ∷ 57 ∷ 49 ∷ 32 ∷ 71 ∷ 50 ∷ 48 ∷ 32 ∷ 70 ∷ 54 ∷ 48 ∷ 32 ∷ 88 ∷ 48 ∷ 46 ∷ 48 ∷ 48 ∷ 48 ∷ 49 ∷ 10 ∷ 88 ∷ 48 ∷ 46 ∷ 48 ∷ 48 ∷ 48 ∷ 49 ∷ 10 ∷ 88 ∷ 48 ∷ 46 ∷ 48 ∷ 48 ∷ 48 ∷ 49 ∷ 10 ∷ 88 ∷ 48 ∷ 46 ∷ 48 ∷ 48 ∷ 48 ∷ 49 ∷ []) (given (block (pos 3) (pos 0) (pos 0) 25400 1 ∷ block (pos 2) (pos 0) (pos 0) 25400 2 ∷ block (pos 3) (pos 0) (pos 0) 25400 3 ∷ block (pos 2) (pos 0) (pos 0) 25400 4 ∷ []))
    -- a feed is rounded down: `X1 F59999.9999`
    ∷ case (88 ∷ 49 ∷ 32 ∷ 70 ∷ 53 ∷ 57 ∷ 57 ∷ 57 ∷ 57 ∷ 46 ∷ 57 ∷ 57 ∷ 57 ∷ 57 ∷ []) (given (block (pos 1000) (pos 0) (pos 0) 999999 1 ∷ []))
    -- a line's G words act before its other words: `X1 G0`
    ∷ case (88 ∷ 49 ∷ 32 ∷ 71 ∷ 48 ∷ []) (given (block (pos 1000) (pos 0) (pos 0) 1000000 1 ∷ []))
    -- no block: `N-1.5 G-0\n\nG01.0 X0`
    ∷ case (78 ∷ 45 ∷ 49 ∷ 46 ∷ 53 ∷ 32 ∷ 71 ∷ 45 ∷ 48 ∷ 10 ∷ 10 ∷ 71 ∷ 48 ∷ 49 ∷ 46 ∷ 48 ∷ 32 ∷ 88 ∷ 48 ∷ []) (given [])
    -- no line: ``
    ∷ case [] (given [])
    -- no feed: `X1`
    ∷ case (88 ∷ 49 ∷ []) (refused (4 at 1))
    -- a feed below 0: `F-60X1`
    ∷ case (70 ∷ 45 ∷ 54 ∷ 48 ∷ 88 ∷ 49 ∷ []) (refused (4 at 1))
    -- too long a move: `F60X1001`
    ∷ case (70 ∷ 54 ∷ 48 ∷ 88 ∷ 49 ∷ 48 ∷ 48 ∷ 49 ∷ []) (refused (3 at 1))
    -- the first faulty line decides: `X1\nQ`
    ∷ case (88 ∷ 49 ∷ 10 ∷ 81 ∷ []) (refused (4 at 1))
    -- a word without a number: `F60\nX1\nM\nX`
    ∷ case (70 ∷ 54 ∷ 48 ∷ 10 ∷ 88 ∷ 49 ∷ 10 ∷ 77 ∷ 10 ∷ 88 ∷ []) (refused (13 at 3))
    -- a letter twice: `X1X2`
    ∷ case (88 ∷ 49 ∷ 88 ∷ 50 ∷ []) (refused (12 at 1))
    -- a pair twice: `G0G1`
    ∷ case (71 ∷ 48 ∷ 71 ∷ 49 ∷ []) (refused (12 at 1))
    -- a word not listed: `M3`
    ∷ case (77 ∷ 51 ∷ []) (refused (12 at 1))
    -- a space ends a word: `X 1`
    ∷ case (88 ∷ 32 ∷ 49 ∷ []) (refused (13 at 1))
    -- six digits: `X123456`
    ∷ case (88 ∷ 49 ∷ 50 ∷ 51 ∷ 52 ∷ 53 ∷ 54 ∷ []) (refused (13 at 1))
    -- five decimals: `X1.23456`
    ∷ case (88 ∷ 49 ∷ 46 ∷ 50 ∷ 51 ∷ 52 ∷ 53 ∷ 54 ∷ []) (refused (13 at 1))
    -- no whole number: `G1.5`
    ∷ case (71 ∷ 49 ∷ 46 ∷ 53 ∷ []) (refused (12 at 1))
    -- G1 ends G0: `G0 X1\nG1 F60 X2`
    ∷ case (71 ∷ 48 ∷ 32 ∷ 88 ∷ 49 ∷ 10 ∷ 71 ∷ 49 ∷ 32 ∷ 70 ∷ 54 ∷ 48 ∷ 32 ∷ 88 ∷ 50 ∷ []) (given (block (pos 1000) (pos 0) (pos 0) 1000000 1 ∷ block (pos 1000) (pos 0) (pos 0) 1000 2 ∷ []))
    -- G90 ends G91: `G91 G0 X1\nG90 X0.5`
    ∷ case (71 ∷ 57 ∷ 49 ∷ 32 ∷ 71 ∷ 48 ∷ 32 ∷ 88 ∷ 49 ∷ 10 ∷ 71 ∷ 57 ∷ 48 ∷ 32 ∷ 88 ∷ 48 ∷ 46 ∷ 53 ∷ []) (given (block (pos 1000) (pos 0) (pos 0) 1000000 1 ∷ block (negsuc 499) (pos 0) (pos 0) 1000000 2 ∷ []))
    -- a small letter: `x`
    ∷ case (120 ∷ []) (refused (12 at 1))
    -- a comma: `X1,5`
    ∷ case (88 ∷ 49 ∷ 44 ∷ 53 ∷ []) (refused (12 at 1))
    ∷ []

worked : runs table ≡ expected table
unfolding table runs expected text_run with_lines with_line with_words with_block modal_after position_of length_in feed_of rounded_of block_between lines_of line.behind_words with_pieces with_word pieces_from number_in after_sign with_decimals of_decimals value_behind greatest_move block_refusal
worked = refl
