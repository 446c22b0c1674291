-- A program's command line, said without reading its words one after the other: options, and after them the other words.
use Rattle.std.specs.Prelude.{◌≡◌, true, false, cond, List, ◌∷◌, [], ℕ, ◌+◌, ◌≤◌, eqb, length}
use Rattle.options.specs.declared.Form.{Form}
use Rattle.options.specs.Kinds.{help_word, version_word, steps_word, width_word, dashed}

-- an option, with its value
pub data Option : Type 0 where
  help : Option
  version : Option
  steps : (file : List ℕ) → Option
  width : (number : List ℕ) → Option

-- the words of options, and after them the other words
abbrev pub line : List Option → (others : List (List ℕ)) → List (List ℕ)
line [] others = others
line (help ∷ options) others = help_word ∷ line options others
line (version ∷ options) others = version_word ∷ line options others
line (steps file ∷ options) others = steps_word ∷ file ∷ line options others
line (width number ∷ options) others = width_word ∷ number ∷ line options others

-- how many options there are of a kind: 1 `--help`, 2 `--version`, 3 `--steps`, 4 `--width`; numbers, as the laws `work_asked_is`,
-- `usage_asked_is` and `version_asked_is` are stated by them
abbrev pub kind_of : Option → ℕ
kind_of help = 1
kind_of version = 2
kind_of (steps file) = 3
kind_of (width number) = 4

abbrev pub times : (kind : ℕ) → List Option → ℕ
times kind [] = 0
times kind (option ∷ options) = cond (eqb kind (kind_of option)) (1 + times kind options) (times kind options)

-- a decimal number: one to nine digits
abbrev pub Digits : List ℕ → Type 0
Digits [] = Unit {0}
Digits (byte ∷ word) = (48 ≤ byte) × (byte ≤ 57) × Digits word

abbrev pub Number : List ℕ → Type 0
Number word = (1 ≤ length word) × (length word ≤ 9) × Digits word

-- a program of this form knows these options: any word names the steps' file, a width is a number
abbrev pub Known : Form → List Option → Type 0
Known f [] = Unit {0}
Known f (help ∷ options) = Known f options
Known f (version ∷ options) = Known f options
Known f (steps file ∷ options) = (f.steps ≡ true) × Known f options
Known f (width number ∷ options) = (f.width ≡ true) × Number number × Known f options

-- it takes these other words: none begins as the options do, and each is a number if it takes numbers
abbrev pub Taken : Form → List (List ℕ) → Type 0
Taken f [] = Unit {0}
Taken f (word ∷ others) = (dashed word ≡ false) × (f.numbers ≡ true → Number word) × Taken f others

pub record CommandLine (f : Form) (words : List (List ℕ)) : Type 0 where
  pub options : List Option
  pub others : List (List ℕ)
  pub is : words ≡ line options others
  pub known : Known f options
  pub once : (times 1 options ≤ 1) × (times 2 options ≤ 1) × (times 3 options ≤ 1) × (times 4 options ≤ 1)
  pub taken : Taken f others
  pub room : length others ≤ f.most

-- The work is asked for without `--help` and `--version`, and with the other words that the program needs.
pub record AsksWork (f : Form) (words : List (List ℕ)) : Type 0 where
  pub line : CommandLine f words
  pub no_help : times 1 line.options ≡ 0
  pub no_version : times 2 line.options ≡ 0
  pub enough : f.least ≤ length line.others

-- The usage is asked for by `--help`, and the version by `--version` without it, whether or not other words are there.
pub record AsksUsage (f : Form) (words : List (List ℕ)) : Type 0 where
  pub line : CommandLine f words
  pub helped : times 1 line.options ≡ 1

pub record AsksVersion (f : Form) (words : List (List ℕ)) : Type 0 where
  pub line : CommandLine f words
  pub no_help : times 1 line.options ≡ 0
  pub versioned : times 2 line.options ≡ 1
