-- Reading a line from the left into a lent list of words, step by step.
use Rattle.std.specs.Prelude.{◌≡◌, Bool, List, ℕ, ◌≤◌, ℤ, length, drop, Option, Result, Ok, Err, ⊤}
use Rattle.display.specs.Display.{checked_means, refusal_number, Outcome, given, refused}
use Rattle.display.specs.declared.Refusal.{Refusal}
use Rattle.words.specs.Pieces.{pieces_of}
use Rattle.words.specs.Words.{Words, words_by, words_in, slots, Scan, scan, with_pieces}

-- putting a word answers r and leaves the words so: as they are with it, or as they were
abbrev pub Puts : Outcome ℕ Words → (before : Words) → Result ⊤ Refusal → (after : Words) → Type 0
Puts (given v) before (Ok _) after = after ≡ v
Puts (given v) before (Err why) after = ⊥
Puts (refused n) before (Ok _) after = ⊥
Puts (refused n) before (Err why) after = (refusal_number why ≡ n) × (after ≡ before)

-- what is left leads to where all leads: some bytes are done, at least one, and the others behind the words that stand now come to the
-- same as all behind the words before; or all comes to a fault
abbrev pub Stepped : (before : Words) → List ℕ → Result ℕ Refusal → (after : Words) → Type 0
Stepped before s (Ok n) after = (1 ≤ n) × ((n ≤ length s) × (with_pieces (pieces_of (drop n s)) after ≡ with_pieces (pieces_of s) before))
Stepped before s (Err why) after = with_pieces (pieces_of s) before ≡ scan (refusal_number why) after

-- a reader answers r and leaves the words so
pub record Scanned (result : Scan) (r : Result ⊤ Refusal) (left : List (Option ℤ)) : Type 0 where
  pub number : checked_means r ≡ result.number
  pub words : words_in left ≡ result.words
  pub sized : length left ≡ slots

-- two lists of a line's words have one element for each slot
pub record Sized (stands : List Bool) (values : List ℤ) : Type 0 where
  pub told : length stands ≡ slots
  pub numbers : length values ≡ slots

-- a reader of two lists answers r and leaves them so, the numbers in slots without a word too
pub record ScannedApart (result : Scan) (r : Result ⊤ Refusal) (stands : List Bool) (values : List ℤ) : Type 0 where
  pub number : checked_means r ≡ result.number
  pub words : words_by stands values ≡ result.words
  pub sized : Sized stands values
