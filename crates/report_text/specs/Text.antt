-- The text of a report, as ASCII bytes: a header, a line for each tape with its name, and a line for all.
use Rattle.std.specs.Prelude.{List, ◌∷◌, ◌++◌, [], ℕ, ◌+◌, ◌*◌, ◌≤◌, length, Option}
use Rattle.display.specs.Display.{Fault, Outcome, given, refused}
use Rattle.text.specs.Text.{line_feed, named_row, refused_named}
use Rattle.text.specs.Store.{Answered}
use Rattle.report.specs.Figures.{figure_count, figure_numbers}
use Rattle.report.specs.Report.{Job, accepted_of, answers_to, total_of}
use Rattle.report.specs.declared.Figures.{Figures}

-- the line `blocks length peak feed corner chord reach tape`
unfoldable pub report_header : List ℕ
report_header = 98 ∷ 108 ∷ 111 ∷ 99 ∷ 107 ∷ 115 ∷ 32 ∷ 108 ∷ 101 ∷ 110 ∷ 103 ∷ 116 ∷ 104 ∷ 32 ∷ 112 ∷ 101 ∷ 97 ∷ 107 ∷ 32 ∷ 102 ∷ 101 ∷ 101 ∷ 100 ∷ 32 ∷ 99 ∷ 111 ∷ 114 ∷ 110 ∷ 101 ∷ 114 ∷ 32 ∷ 99 ∷ 104 ∷ 111 ∷ 114 ∷ 100 ∷ 32 ∷ 114 ∷ 101 ∷ 97 ∷ 99 ∷ 104 ∷ 32 ∷ 116 ∷ 97 ∷ 112 ∷ 101 ∷ line_feed ∷ []

-- the line of figures: the seven numbers and a name
abbrev pub figures_line : Figures → (name : List ℕ) → List ℕ
figures_line f name = named_row (figure_numbers f) name

-- the line of a tape by what it is answered
abbrev pub tape_line : Outcome Fault Figures → (name : List ℕ) → List ℕ
tape_line (given f) name = figures_line f name
tape_line (refused fault) name = refused_named fault.number fault.place name

-- `all`
abbrev pub all_word : List ℕ
all_word = 97 ∷ 108 ∷ 108 ∷ []

-- most bytes of a line beside its name
abbrev pub most_line : ℕ
most_line = 21 * figure_count + 1

-- a line with a name is stored at the beginning of a list whole where it has room, else not at all; figures of 64 bits make no longer one
pub record PutLine (line name text : List ℕ) (answer : Option ℕ) (after : List ℕ) : Type 0 where
  pub answered : Answered text 0 line answer after
  pub short : length line ≤ most_line + length name

-- the lines of tapes with their names, in order, and the text of a report over them from a fresh one
unfoldable pub tape_lines : List (Outcome Fault Figures) → (names : List (List ℕ)) → List ℕ
tape_lines [] names = []
tape_lines (a ∷ answers) [] = []
tape_lines (a ∷ answers) (name ∷ names) = tape_line a name ++ tape_lines answers names

unfoldable pub report_text : List Job → (names : List (List ℕ)) → List ℕ
report_text jobs names = report_header ++ tape_lines (answers_to 0 jobs) names ++ figures_line (total_of (accepted_of 0 jobs)) all_word
