-- Laws of the forward pass and of the plan, by the index of a junction, from the definitions `forward` and `plan_of`.
use mathlib.Core.Path.{◌≡◌, refl}
use mathlib.Core.List.{List, ◌∷◌, []}
use Prim.Native.Nat.{ℕ, zero, suc, ◌+◌, ◌≤◌, ◌<◌, zero-le}
use native.Mathlib.Nat.{le_of_suc-le-suc, not-suc-le-zero}
use native.Mathlib.Numerals.{add-one}
use native.Mathlib.Omega.{arith}
use native.Mathlib.Decide.{dec_le}
use borrow.Author.Tests.{le-leb, lt-leb}
use lib.ListN.{length, drop, replicate, length-replicate, get_or-eq_default}
use Rattle.profile.specs.Line.{span_at, number_at}
use Rattle.profile.specs.declared.Span.{Span}
use Rattle.profile.specs.Passes.{start_limit, CanBrake, exit_of, forward, plan_of}
use Rattle.profile.proofs.Brake.{exit_keeps}

-- The forward pass begins with its entry.
pub forward_first : (entry : ℕ) (line : List Span) → number_at (forward entry line) 0 ≡ entry
unfolding forward
forward_first entry [] = refl
forward_first entry (s ∷ line) = refl

-- It gives one number for each junction.
pub forward_length : (entry : ℕ) (line : List Span) → length (forward entry line) ≡ length line + 1
unfolding forward
forward_length entry [] = refl
forward_length entry (s ∷ line) = omega (arith, forward_length (exit_of entry s line) line)

forward_next' : (entry : ℕ) (line : List Span) (k : ℕ) → k < length line
    → number_at (forward entry line) (suc k) ≡ exit_of (number_at (forward entry line) k) (span_at line k) (drop (suc k) line)
unfolding forward
forward_next' entry [] k h = absurd (not-suc-le-zero h)
forward_next' entry (s ∷ line) zero h = forward_first (exit_of entry s line) line
forward_next' entry (s ∷ line) (suc k) h = forward_next' (exit_of entry s line) line k (le_of_suc-le-suc h)

-- The number at the next junction, whether or not the line can brake.
pub forward_next : (entry : ℕ) (line : List Span) (k : ℕ) → k < length line
    → number_at (forward entry line) (k + 1) ≡ exit_of (number_at (forward entry line) k) (span_at line k) (drop (k + 1) line)
forward_next entry line k h = rw (add-one k) (forward_next' entry line k h)

-- Where the line can brake, the plan is the forward pass.
pub plan_forward : (committed : ℕ) (line : List Span) → CanBrake committed line → plan_of committed line ≡ forward committed line
unfolding plan_of
plan_forward committed line h = rw (le-leb _ _ h)

-- Where it cannot, the plan is zeros.
pub plan_none : (committed : ℕ) (line : List Span) → ¬ CanBrake committed line → plan_of committed line ≡ replicate (length line + 1) 0
unfolding plan_of
plan_none committed line h = rw (lt-leb committed (start_limit line) (omega arith))

-- The plan has one number for each junction.
pub plan_length : (committed : ℕ) (line : List Span) → length (plan_of committed line) ≡ length line + 1
plan_length committed line = elim (dec_le committed (start_limit line)) [
  | yes h ↦ rw (plan_forward committed line h) (forward_length committed line)
  | no h ↦ rw (plan_none committed line h) (length-replicate (length line + 1) 0)
]

module _ (committed : ℕ) (line : List Span) (h : CanBrake committed line) where
  -- It begins with the committed squared speed.
  pub plan_first : number_at (plan_of committed line) 0 ≡ committed
  plan_first = rw (plan_forward committed line h) (forward_first committed line)

  -- The number at the next junction: what the entry and the reach allow, under the backward pass there.
  pub plan_next : (k : ℕ) → k < length line
      → number_at (plan_of committed line) (k + 1) ≡ exit_of (number_at (plan_of committed line) k) (span_at line k) (drop (k + 1) line)
  plan_next k i = rw (plan_forward committed line h) (forward_next committed line k i)

  -- The exit of the first block.
  pub plan_exit : 0 < length line → number_at (plan_of committed line) 1 ≡ exit_of committed (span_at line 0) (drop 1 line)
  plan_exit i = omega (arith, plan_first, plan_next 0 i)

  -- At each junction the line from there can brake from the plan's number.
  pub plan_keeps : (k : ℕ) → k ≤ length line → CanBrake (number_at (plan_of committed line) k) (drop k line)
  plan_keeps zero i = rw plan_first h
  plan_keeps (suc k) i =
      rw (← add-one k, plan_next k i)
      (exit_keeps (number_at (plan_of committed line) k) (span_at line k) (drop (k + 1) line))

-- Where there is no plan each number is 0.
pub none_number : (committed : ℕ) (line : List Span) → ¬ CanBrake committed line → (k : ℕ) → number_at (plan_of committed line) k ≡ 0
none_number committed line h k = rw (plan_none committed line h) (zeros (length line + 1) k)
  where
    zeros : (n i : ℕ) → number_at (replicate n 0) i ≡ 0
    zeros zero i = refl
    zeros (suc n) zero = refl
    zeros (suc n) (suc i) = zeros n i

-- Giving out the first block keeps `CanBrake`, from any committed squared speed: the plan's second number is the new one.
pub take_keeps : (committed : ℕ) (line : List Span) → CanBrake (number_at (plan_of committed line) 1) (drop 1 line)
take_keeps committed line = pick line (dec_le committed (start_limit line))
  where
    pick : (l : List Span) → Dec (CanBrake committed l) → CanBrake (number_at (plan_of committed l) 1) (drop 1 l)
    pick l (no h) = rw (none_number committed l h 1) zero-le
    pick [] (yes h) = omega (arith, get_or-eq_default (plan_of committed []) 0 {n = 1} (omega (arith, plan_length committed [])))
    pick (s ∷ l) (yes h) = plan_keeps committed (s ∷ l) h 1 (omega arith)

-- The first span's cap is never read: lines that differ there alone have the same start limit.
pub start_limit_head : (s t : Span) (line : List Span) → s.reach ≡ t.reach → start_limit (s ∷ line) ≡ start_limit (t ∷ line)
unfolding start_limit
start_limit_head s t line e = rw e
