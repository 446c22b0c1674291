-- The backward pass, the forward pass and the plan that they make: document 01's plan, computed.
-- All numbers are squared speeds, in (µm/s)².
use Rattle.std.specs.Prelude.{Bool, cond, ◌≡◌, List, ◌∷◌, [], ℕ, ◌+◌, ◌≤◌, min, leb, length, drop, replicate}
use Rattle.profile.specs.Line.{number_at}
use Rattle.profile.specs.declared.Span.{Span}

-- One step of the backward pass: the greatest squared speed where a block begins, under its junction cap, from
-- which the block can brake to the squared speed `after` at its end.
abbrev pub brake_from : ℕ → ℕ → ℕ → ℕ
brake_from cap reach after = min cap (reach + after)

-- One step of the forward pass: the greatest squared speed at a block's end that its entry and its reach allow,
-- under the limit there.
abbrev pub exit_from : ℕ → ℕ → ℕ → ℕ
exit_from entry reach limit = min (entry + reach) limit

-- The backward pass: the greatest squared speed where a line begins, under its first cap, from which the line can
-- brake to zero at its end within every cap and reach.
unfoldable pub brake : List Span → ℕ
brake [] = 0
brake (s ∷ line) = brake_from s.cap s.reach (brake line)

-- The same at junction 0, whose cap is never read: the greatest committed squared speed from which the line can brake.
unfoldable pub start_limit : List Span → ℕ
start_limit [] = 0
start_limit (s ∷ line) = s.reach + brake line

-- The line can brake from the committed squared speed: a lawful profile exists.
abbrev pub CanBrake : ℕ → List Span → Type 0
CanBrake committed line = committed ≤ start_limit line

-- The test for it.
abbrev pub can_brake : ℕ → List Span → Bool
can_brake committed line = leb committed (start_limit line)

-- The exit of a block in the forward pass: as fast as its entry and reach allow and the blocks after it can brake from.
abbrev pub exit_of : ℕ → Span → List Span → ℕ
exit_of entry s rest = exit_from entry s.reach (brake rest)

-- The forward pass: the entry of each block, and at last the exit of the last.
unfoldable pub forward : ℕ → List Span → List ℕ
forward entry [] = entry ∷ []
forward entry (s ∷ line) = entry ∷ forward (exit_of entry s line) line

-- Document 01's plan of a line, its highest lawful profile: one number for each junction. Zeros where there is none
-- ("0 if there were none").
unfoldable pub plan_of : ℕ → List Span → List ℕ
plan_of committed line = cond (can_brake committed line) (forward committed line) (replicate (length line + 1) 0)

-- Numbers kept for the junctions of a line, by index: from junction `first` to the end they are the backward pass's.
abbrev pub Braked : List Span → (ℕ → ℕ) → ℕ → Type 0
Braked line kept first = (i : ℕ) → first ≤ i → i ≤ length line → kept i ≡ brake (drop i line)

-- Up to junction `last` they are the forward pass's, whether or not the line can brake.
abbrev pub Forwarded : ℕ → List Span → (ℕ → ℕ) → ℕ → Type 0
Forwarded committed line kept last = (i : ℕ) → i ≤ last → kept i ≡ number_at (forward committed line) i
