-- Lawful and highest profiles of a line of blocks, in the words of document 01, "Plan, give out, ramp".
-- Speeds, caps and reaches are squared speeds, in (µm/s)².
use Rattle.std.specs.Prelude.{◌≡◌, List, ◌∷◌, [], ℕ, ◌+◌, ◌≤◌, ◌<◌, length, get_or}
use Rattle.profile.specs.declared.Span.{Span}

-- What is read past a line's end.
abbrev pub no_span : Span
no_span = record { cap = 0; reach = 0 }

-- Block k of a line, block 0 the first: it lies between the junctions k and k + 1.
abbrev pub span_at : List Span → ℕ → Span
span_at line k = get_or line k no_span

-- The junction cap at junction k.
abbrev pub cap_at : List Span → ℕ → ℕ
cap_at line k = (span_at line k).cap

-- The reach of block k.
abbrev pub reach_at : List Span → ℕ → ℕ
reach_at line k = (span_at line k).reach

-- The sum of the reaches of a line's blocks.
unfoldable pub total_reach : List Span → ℕ
total_reach [] = 0
total_reach (s ∷ line) = s.reach + total_reach line

-- The number of a profile at junction k.
abbrev pub number_at : List ℕ → ℕ → ℕ
number_at profile k = get_or profile k 0

-- Document 01's lawful profile of a line of n blocks, from the committed squared speed.
pub record Lawful (committed : ℕ) (line : List Span) (profile : List ℕ) : Type 0 where
  -- n + 1 whole numbers
  pub sized : length profile ≡ length line + 1
  -- the committed squared speed at junction 0
  pub begins : number_at profile 0 ≡ committed
  -- zero at junction n
  pub ends : number_at profile (length line) ≡ 0
  -- at most the junction cap at each junction between
  pub capped : (k : ℕ) → 0 < k → k < length line → number_at profile k ≤ cap_at line k
  -- across each block the two numbers differ by at most its reach
  pub rises : (k : ℕ) → k < length line → number_at profile (k + 1) ≤ number_at profile k + reach_at line k
  pub falls : (k : ℕ) → k < length line → number_at profile k ≤ number_at profile (k + 1) + reach_at line k

-- Document 01's plan: a lawful profile that none of the same line and committed squared speed exceeds anywhere.
pub record Highest (committed : ℕ) (line : List Span) (profile : List ℕ) : Type 0 where
  pub lawful : Lawful committed line profile
  pub above : (other : List ℕ) → Lawful committed line other → (k : ℕ) → k ≤ length line → number_at other k ≤ number_at profile k
