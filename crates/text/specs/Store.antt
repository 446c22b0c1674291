-- A text stored in a list from a place on.
use Rattle.std.specs.Prelude.{◌≡◌, ℕ, ◌+◌, cond, List, ◌++◌, leb, length, take, drop, Option, Some, None}

-- s with the text from place `at` on, and every other byte as it was
unfoldable pub put : List ℕ → ℕ → List ℕ → List ℕ
put s at text = take at s ++ text ++ drop (at + length text) s

-- `after` is s with the text from place `at` on, which ends before place `end`
pub record Stored (s : List ℕ) (at : ℕ) (text : List ℕ) (end : ℕ) (after : List ℕ) : Type 0 where
  pub bytes : after ≡ put s at text
  pub next : end ≡ at + length text

-- the place behind a text that was stored from place `at` on, or `at` where there was no room
abbrev pub place_behind : (at : ℕ) → Option ℕ → ℕ
place_behind at (Some end) = end
place_behind at None = at

-- where the whole text has room, it is stored and the place behind it answered; else nothing is stored
pub record Answered (s : List ℕ) (at : ℕ) (text : List ℕ) (answer : Option ℕ) (after : List ℕ) : Type 0 where
  pub bytes : after ≡ cond (leb (at + length text) (length s)) (put s at text) s
  pub next : answer ≡ cond (leb (at + length text) (length s)) (Some (at + length text)) None
