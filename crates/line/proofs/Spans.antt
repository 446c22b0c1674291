-- The spans of a line when a block is put last and when the first is taken. From the definition `spans_of`.
use mathlib.Core.Path.{◌≡◌, refl, ap}
use mathlib.Core.List.{List, ◌∷◌, ◌++◌, []}
use Prim.Native.Nat.{ℕ, suc, ◌+◌, ◌*◌, ◌≤◌, ◌<◌, zero-le}
use native.Mathlib.Nat.{suc-mul}
use native.Mathlib.Omega.{arith}
use lib.ListN.{length, drop}
use Rattle.profile.specs.Line.{span_at, cap_at, reach_at, total_reach}
use Rattle.profile.specs.declared.Span.{Span}
use Rattle.profile.specs.Passes.{brake, CanBrake}
use Rattle.profile.proofs.Plan.{start_limit_head}
use Rattle.machine.specs.Line.{spans_of, spans_after}
use Rattle.machine.specs.Numbers.{block_cap, junction_cap, reach_of}
use Rattle.machine.specs.declared.Block.{Block}
use Rattle.machine.specs.declared.Machine.{Machine}
use Rattle.machine.proofs.CapLaws.{junction_largest}
use Rattle.line.specs.Holds.{block_at}

-- The reaches together, with one span more,
pub total_last : (line : List Span) (s : Span) → total_reach (line ++ (s ∷ [])) ≡ total_reach line + s.reach
unfolding total_reach
total_last [] s = omega arith
total_last (x ∷ line) s = omega (arith, total_last line s)

-- and at most as many times the most of one as there are.
pub total_below : (most : ℕ) (line : List Span) → ((k : ℕ) → k < length line → reach_at line k ≤ most) → total_reach line ≤ length line * most
unfolding total_reach
total_below most [] h = omega arith
total_below most (x ∷ line) h = omega (arith, h 0 (omega arith), total_below most line (λ k g. h (suc k) (omega arith)), suc-mul (length line) most)

module _ (m : Machine) where
  -- one more block put last after a block
  after_last : (a : Block) (blocks : List Block) (b : Block)
      → spans_after m a (blocks ++ b ∷ []) ≡ spans_after m a blocks ++ (span_at (spans_after m a (blocks ++ b ∷ [])) (length blocks) ∷ [])
  unfolding spans_after
  after_last a [] b = refl
  after_last a (c ∷ blocks) b = ap (λ (s : List Span). record { cap = junction_cap m.limits a c; reach = reach_of m c } ∷ s) (after_last c blocks b)

  -- a block put last adds its span last
  pub spans_last : (blocks : List Block) (b : Block)
      → spans_of m (blocks ++ b ∷ []) ≡ spans_of m blocks ++ (span_at (spans_of m (blocks ++ b ∷ [])) (length blocks) ∷ [])
  unfolding spans_of spans_after
  spans_last [] b = refl
  spans_last (c ∷ blocks) b = ap (λ (s : List Span). record { cap = 0; reach = reach_of m c } ∷ s) (after_last c blocks b)

  -- without the first block, the spans are the rest's but for the first cap, which is never read
  module _ (a : Block) where
    pub rest_cap : (blocks : List Block) (k : ℕ) → cap_at (spans_of m (a ∷ blocks)) (suc (suc k)) ≡ cap_at (spans_of m blocks) (suc k)
    unfolding spans_of spans_after
    rest_cap [] k = refl
    rest_cap (b ∷ blocks) k = refl

    pub rest_brakes : (speed : ℕ) (blocks : List Block) → CanBrake speed (drop 1 (spans_of m (a ∷ blocks))) → CanBrake speed (spans_of m blocks)
    unfolding spans_of spans_after
    rest_brakes speed [] h = h
    rest_brakes speed (b ∷ blocks) h =
        rw (start_limit_head (record { cap = 0; reach = reach_of m b }) (record { cap = junction_cap m.limits a b; reach = reach_of m b }) (spans_after m b blocks) refl) h

    -- the backward pass after the first block is within its cap, and within the next block's
    pub rest_under : (blocks : List Block) → brake (drop 1 (spans_of m (a ∷ blocks))) ≤ block_cap m.limits a
    unfolding spans_of spans_after brake
    rest_under [] = zero-le
    rest_under (b ∷ blocks) = omega (arith, (junction_largest m.limits a b).has)

    pub rest_entered : (blocks : List Block) → brake (drop 1 (spans_of m (a ∷ blocks))) ≤ block_cap m.limits (block_at blocks 0)
    unfolding spans_of spans_after brake
    rest_entered [] = zero-le
    rest_entered (b ∷ blocks) = omega (arith, (junction_largest m.limits a b).has)
