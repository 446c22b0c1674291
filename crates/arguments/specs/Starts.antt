-- What is left to do for a program that is started with words.
use Rattle.std.specs.Prelude.{◌≡◌, cond, List, map, ℕ, ◌-◌, ◌≤◌, length, Option, Some, None, IfSome}
use Rattle.options.specs.Kinds.{word_of}
use Rattle.options.specs.Line.{AsksWork}
use Rattle.options.specs.Scan.{asked_by, none_seen, seen_from}
use Rattle.options.specs.declared.Asked.TheVariants as asked
use Rattle.options.specs.declared.Form.{Form}
use Rattle.options.specs.declared.Seen.{Seen}
use Rattle.options.specs.declared.Word.{Word}
use Rattle.arguments.specs.declared.Work.{Work}

-- a word that was read: by its bytes
pub record WordRead (w : Word) : Type 0 where
  pub bytes : List ℕ
  pub is : w ≡ word_of bytes

-- what is seen of all words before the place `end`: those of a list, one for each place
pub record SeenBefore (f : Form) (end : ℕ) (s : Seen) : Type 0 where
  pub words : List (List ℕ)
  pub many : length words ≡ end - 1
  pub is : s ≡ seen_from f none_seen 1 (map word_of words)

-- the place of the file that is read at once, if there is one
abbrev pub file_named : Form → Seen → Option ℕ
file_named f s = cond f.steps s.steps s.first

-- the program's work, with so many bytes of the file; nothing if it failed
abbrev pub start_of : Seen → Option ℕ → Option Work
start_of s (Some n) = Some (record { seen = s; got = n })
start_of s None = None

-- the work is left only if what was seen asks for it, with no more bytes than there is room for
abbrev pub Carried : Form → Seen → (room : ℕ) → Option Work → Type 0
Carried f seen room left = IfSome left (λ w. (w.got ≤ room) × (w.seen ≡ seen) × (asked_by f seen ≡ asked.Work))

-- words that ask for a program's work and say this
pub record Asking (f : Form) (s : Seen) : Type 0 where
  pub words : List (List ℕ)
  pub is : s ≡ seen_from f none_seen 1 (map word_of words)
  pub work : AsksWork f words

-- the work is left only if words ask for it and say this
abbrev pub Started : Form → (room : ℕ) → Option Work → Type 0
Started f room left = IfSome left (λ w. (w.got ≤ room) × Asking f w.seen)
