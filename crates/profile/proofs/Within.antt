-- How far the plan moves when the caps move, and how much of a line decides its backward pass. From the laws of the passes.
use mathlib.Core.Path.{◌≡◌}
use mathlib.Core.List.{List, ◌∷◌, ◌++◌, []}
use Prim.Native.Nat.{ℕ, zero, suc, ◌+◌, ◌-◌, ◌≤◌, ◌<◌, min}
use native.Mathlib.Numerals.{add-one}
use native.Mathlib.Omega.{arith}
use lib.ListN.{length, drop}
use Rattle.profile.specs.Line.{cap_at, reach_at, total_reach, number_at}
use Rattle.profile.specs.declared.Span.{Span}
use Rattle.profile.specs.Passes.{brake, CanBrake, exit_of, plan_of}
use Rattle.profile.proofs.Brake.{down, brake_drop, brake_end, brake_longer}
use Rattle.profile.proofs.Plan.{plan_first, plan_next}

-- Two lines of as many blocks: at the inner junctions the caps of the first are greater by at most d, and no reach is greater.
pub record Within (d : ℕ) (one two : List Span) : Type 0 where
  pub blocks : length one ≡ length two
  pub caps : (k : ℕ) → 0 < k → k < length one → cap_at one k ≤ cap_at two k + d
  pub reaches : (k : ℕ) → k < length one → reach_at one k ≤ reach_at two k

-- Then the backward pass at an inner junction is greater by at most d,
pub within_brake : (d : ℕ) (one two : List Span) → Within d one two → (k : ℕ) → 0 < k → k ≤ length one → brake (drop k one) ≤ brake (drop k two) + d
within_brake d one two w k p i =
    down (λ j. 0 < j → brake (drop j one) ≤ brake (drop j two) + d) (length one)
    (λ r. omega (arith, brake_end one (length one) (omega arith)))
    (λ j h b r. omega (arith, brake_drop one j h, brake_drop two j (omega (arith, w.blocks)), w.caps j r h, w.reaches j h, b (omega arith)))
    k i p

-- and so is the plan at every junction. With d = 0: lower caps give no higher plan.
pub within_plan : (d committed : ℕ) (one two : List Span) → Within d one two → CanBrake committed one → CanBrake committed two
    → (k : ℕ) → k ≤ length one → number_at (plan_of committed one) k ≤ number_at (plan_of committed two) k + d
within_plan d committed one two w g h zero i = omega (arith, plan_first committed one g, plan_first committed two h)
within_plan d committed one two w g h (suc k) i =
    rw (← add-one k)
    (omega (
      arith,
      within_plan d committed one two w g h k (omega arith),
      plan_next committed one g k i,
      plan_next committed two h k (omega (arith, w.blocks)),
      w.reaches k i,
      within_brake d one two w (k + 1) (omega arith) (omega arith),
    ))

-- No line brakes from more than its blocks' reaches total,
pub brake_total : (line : List Span) → brake line ≤ total_reach line
unfolding brake total_reach
brake_total [] = omega arith
brake_total (s ∷ line) = omega (arith, brake_total line)

-- and blocks after it raise its backward pass only above that total.
pub brake_front : (speed : ℕ) (line more : List Span) → speed ≤ total_reach line → min speed (brake (line ++ more)) ≤ brake line
unfolding brake total_reach
brake_front speed [] more h = omega arith
brake_front speed (s ∷ line) more h = omega (arith, brake_front (speed - s.reach) line more (omega arith))

-- Where the reaches total at least the line's first cap, blocks after it leave its backward pass as it is.
pub brake_enough : (s : Span) (line more : List Span) → s.cap ≤ total_reach (s ∷ line) → brake ((s ∷ line) ++ more) ≡ brake (s ∷ line)
unfolding brake
brake_enough s line more h = omega (arith, brake_front s.cap (s ∷ line) more h, brake_longer (s ∷ line) more)

-- A block's exit is that of the longer line if and only if the reaches of the blocks behind it total at least that exit.
module _ (entry : ℕ) (s : Span) (rest more : List Span) where
  pub exit_enough : exit_of entry s (rest ++ more) ≤ total_reach rest → exit_of entry s rest ≡ exit_of entry s (rest ++ more)
  exit_enough h = omega (arith, brake_front (exit_of entry s (rest ++ more)) rest more h, brake_longer rest more)

  pub exit_needs : exit_of entry s rest ≡ exit_of entry s (rest ++ more) → exit_of entry s (rest ++ more) ≤ total_reach rest
  exit_needs e = omega (arith, brake_total rest)
