-- The lines that are written, as ASCII bytes: on standard error what is wrong, on standard output the version.
use Rattle.std.specs.Prelude.{ℕ, Bool, true, false, cond, codes, List, ◌∷◌, ◌++◌, ◌+◌, [], ltb, eqb, Option, Some, None}
use Rattle.options.specs.declared.Valued.{Valued}
use Rattle.options.specs.declared.Valued.TheVariants.{Steps, Width}
use Rattle.arguments.specs.declared.FileError.{FileError}
use Rattle.arguments.specs.declared.FileError.TheVariants.{Unopened, Unread}

-- how a byte is shown in a line: one of the control characters as `?`
unfoldable pub shown_as : ℕ → ℕ
shown_as byte = cond (ltb byte 32) 63 (cond (eqb byte 127) 63 byte)

-- how many bytes of a program's name are shown at most
abbrev pub name_size : ℕ
name_size = 64

-- how many bytes the words around what a line names have at most
abbrev pub around_size : ℕ
around_size = 62

-- how many bytes of a word that a line names are shown at most, and how many bytes the longest line has
abbrev pub word_size : ℕ
word_size = 256

abbrev pub line_size : ℕ
line_size = name_size + word_size + around_size

-- a line about a word: the program's name, what is the matter, the word, and what follows it
abbrev pub line_of : (program matter word rest : List ℕ) → List ℕ
line_of program matter word rest = program ++ matter ++ word ++ rest

-- `: unexpected argument '`
unfoldable pub unexpected : List ℕ
unexpected = codes ": unexpected argument '"

-- `'; it reads standard input, see --help` and a line feed, or without the first sentence
unfoldable pub advice : (reads : Bool) → List ℕ
advice true = codes "'; it reads standard input, see --help" ++ 10 ∷ []
advice false = codes "'; see --help" ++ 10 ∷ []

-- the line that names a wrong word
unfoldable pub wrong_line : (program : List ℕ) (reads : Bool) (word : List ℕ) → List ℕ
wrong_line program reads word = line_of program unexpected word (advice reads)

-- `: '--steps' needs the name of a file, see --help` and a line feed, and the same of `--width`, which needs a number
unfoldable pub steps_need : List ℕ
steps_need = codes ": '--steps' needs the name of a file, see --help" ++ 10 ∷ []

unfoldable pub width_needs : List ℕ
width_needs = codes ": '--width' needs a number, see --help" ++ 10 ∷ []

-- `: needs more numbers, see --help` and a line feed, or `: needs the name of a file, see --help`
unfoldable pub needs_more : (numbers : Bool) → List ℕ
needs_more true = codes ": needs more numbers, see --help" ++ 10 ∷ []
needs_more false = codes ": needs the name of a file, see --help" ++ 10 ∷ []

-- the line of what is missing: what this option needs, or another word
abbrev pub needed : (numbers : Bool) → Option Valued → List ℕ
needed numbers (Some Steps) = steps_need
needed numbers (Some Width) = width_needs
needed numbers None = needs_more numbers

unfoldable pub missing_line : (program : List ℕ) (numbers : Bool) → Option Valued → List ℕ
missing_line program numbers option = line_of program (needed numbers option) [] []

-- the version of the programs, 0.12.0, and the line that has it
unfoldable pub version_text : List ℕ
version_text = codes "0.12.0"

unfoldable pub version_line : (program : List ℕ) → List ℕ
version_line program = line_of program (32 ∷ []) version_text (10 ∷ [])

-- `: cannot open '`
unfoldable pub cannot_open : List ℕ
cannot_open = codes ": cannot open '"

-- `: cannot read '`
unfoldable pub cannot_read : List ℕ
cannot_read = codes ": cannot read '"

-- `'`
abbrev pub quote : List ℕ
quote = codes "'"

-- the line of a file that could not be opened or read, up to the system's reason
unfoldable pub failed_line : (program : List ℕ) → FileError → (name : List ℕ) → List ℕ
failed_line program (Unopened why) name = line_of program cannot_open name quote
failed_line program (Unread why) name = line_of program cannot_read name quote

-- `: standard output did not take `
unfoldable pub untaken : List ℕ
untaken = codes ": standard output did not take "

-- the line that standard output did not take what was written
unfoldable pub untaken_line : (program what : List ℕ) → List ℕ
untaken_line program what = line_of program untaken what (10 ∷ [])

-- `: standard input could not be read to its end` and a line feed
unfoldable pub unread : List ℕ
unread = codes ": standard input could not be read to its end" ++ 10 ∷ []

-- the line that standard input was not read to its end
unfoldable pub unread_line : (program : List ℕ) → List ℕ
unread_line program = line_of program unread [] []
