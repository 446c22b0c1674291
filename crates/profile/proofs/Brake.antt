-- Laws of the backward pass, by the index of a junction, from the definitions `brake` and `start_limit`.
use mathlib.Core.Path.{◌≡◌}
use mathlib.Core.List.{List, ◌∷◌, ◌++◌, []}
use Prim.Native.Nat.{ℕ, zero, suc, ◌+◌, ◌-◌, ◌≤◌, ◌<◌, zero-le}
use native.Mathlib.Nat.{le_refl}
use native.Mathlib.Numerals.{add-one}
use native.Mathlib.Omega.{arith}
use lib.ListN.{length, drop, drop_of_length-le}
use lib.Seq.{drop-cons, drop-length}
use Rattle.profile.specs.Line.{no_span, cap_at, reach_at}
use Rattle.profile.specs.declared.Span.{Span}
use Rattle.profile.specs.Passes.{brake, brake_from, start_limit, CanBrake, exit_of}

-- What holds at n, and at each index below n if at the next, holds at each index up to n.
pub down : (P : ℕ → Type 0) (n : ℕ) → P n → ((k : ℕ) → k < n → P (k + 1) → P k) → (k : ℕ) → k ≤ n → P k
down P n last back k h = from (n - k) k (omega arith)
  where
    from : (m i : ℕ) → i + m ≡ n → P i
    from zero i e =
        let at-end : i ≡ n = omega arith in
        rw at-end last
    from (suc m) i e = back i (omega arith) (from m (i + 1) (omega arith))

-- The backward pass at a junction, from the pass at the next.
pub brake_drop : (line : List Span) (k : ℕ) → k < length line → brake (drop k line) ≡ brake_from (cap_at line k) (reach_at line k) (brake (drop (k + 1) line))
unfolding brake
brake_drop line k h = rw (add-one k, drop-cons line k no_span)

-- At the line's end, and past it, the pass gives 0.
pub brake_end : (line : List Span) (k : ℕ) → length line ≤ k → brake (drop k line) ≡ 0
unfolding brake
brake_end line k h = rw (drop_of_length-le line h)

-- The pass is at most the junction's cap.
pub brake_cap : (line : List Span) (k : ℕ) → k < length line → brake (drop k line) ≤ cap_at line k
brake_cap line k h = omega (arith, brake_drop line k h)

-- The start limit at a junction: the backward pass without the junction's cap.
pub start_limit_drop : (line : List Span) (k : ℕ) → k < length line → start_limit (drop k line) ≡ reach_at line k + brake (drop (k + 1) line)
unfolding start_limit
start_limit_drop line k h = rw (add-one k, drop-cons line k no_span)

-- At the line's end the start limit is 0.
pub start_limit_end : (line : List Span) → start_limit (drop (length line) line) ≡ 0
unfolding start_limit
start_limit_end line = rw (drop-length line)

-- The start limit is no lower than the backward pass.
pub brake_start : (line : List Span) → brake line ≤ start_limit line
unfolding brake start_limit
brake_start [] = le_refl 0
brake_start (s ∷ line) = omega arith

-- A longer line can brake from at least the same squared speed: the junction that was the end had 0.
pub brake_longer : (line more : List Span) → brake line ≤ brake (line ++ more)
unfolding brake
brake_longer [] more = zero-le
brake_longer (s ∷ line) more = omega (arith, brake_longer line more)

-- Spans added last keep `CanBrake`, whatever they are.
pub add_keeps : (committed : ℕ) (line more : List Span) → CanBrake committed line → CanBrake committed (line ++ more)
unfolding start_limit
add_keeps committed [] more h = omega arith
add_keeps committed (s ∷ line) more h = omega (arith, brake_longer line more)

-- The line after a block can brake from every exit that the forward pass gives the block.
pub exit_keeps : (entry : ℕ) (s : Span) (rest : List Span) → CanBrake (exit_of entry s rest) rest
exit_keeps entry s rest = omega (arith, brake_start rest)
