-- The spans of a line of blocks, block by block. From their definition.
use mathlib.Core.Path.{◌≡◌, refl, ap}
use mathlib.Core.List.{List, ◌∷◌, []}
use Prim.Native.Nat.{ℕ, zero, suc, ◌<◌}
use native.Mathlib.Nat.{not-suc-le-zero, le_of_suc-le-suc}
use lib.ListN.{length, get_or}
use Rattle.profile.specs.Line.{cap_at, reach_at}
use Rattle.machine.specs.Numbers.{junction_cap, reach_of}
use Rattle.machine.specs.Line.{spans_after, spans_of}
use Rattle.machine.specs.declared.Machine.{Machine}
use Rattle.machine.specs.declared.Block.{Block}

after_length : (m : Machine) (p : Block) (bs : List Block) → length (spans_after m p bs) ≡ length bs
unfolding spans_after
after_length m p [] = refl
after_length m p (b ∷ bs) = ap suc (after_length m b bs)

-- a span for each block
pub spans_length : (m : Machine) (bs : List Block) → length (spans_of m bs) ≡ length bs
unfolding spans_of
spans_length m [] = refl
spans_length m (b ∷ bs) = ap suc (after_length m b bs)

-- what is read past the blocks is `none`, any block
module _ (none : Block) (m : Machine) where
  after_reach : (p : Block) (bs : List Block) (k : ℕ) → k < length bs → reach_at (spans_after m p bs) k ≡ reach_of m (get_or bs k none)
  unfolding spans_after
  after_reach p [] k h = absurd (not-suc-le-zero h)
  after_reach p (b ∷ bs) zero h = refl
  after_reach p (b ∷ bs) (suc k) h = after_reach b bs k (le_of_suc-le-suc h)

  after_cap : (p : Block) (bs : List Block) (k : ℕ) → k < length bs → cap_at (spans_after m p bs) k ≡ junction_cap m.limits (get_or (p ∷ bs) k none) (get_or bs k none)
  unfolding spans_after
  after_cap p [] k h = absurd (not-suc-le-zero h)
  after_cap p (b ∷ bs) zero h = refl
  after_cap p (b ∷ bs) (suc k) h = after_cap b bs k (le_of_suc-le-suc h)

  -- the reach of block k
  pub spans_reach : (bs : List Block) (k : ℕ) → k < length bs → reach_at (spans_of m bs) k ≡ reach_of m (get_or bs k none)
  unfolding spans_of
  spans_reach [] k h = absurd (not-suc-le-zero h)
  spans_reach (b ∷ bs) zero h = refl
  spans_reach (b ∷ bs) (suc k) h = after_reach b bs k (le_of_suc-le-suc h)

  -- the cap between block k and the next
  pub spans_cap : (bs : List Block) (k : ℕ) → suc k < length bs → cap_at (spans_of m bs) (suc k) ≡ junction_cap m.limits (get_or bs k none) (get_or bs (suc k) none)
  unfolding spans_of
  spans_cap [] k h = absurd (not-suc-le-zero h)
  spans_cap (b ∷ bs) k h = after_cap b bs k (le_of_suc-le-suc h)

-- the first span's cap, which is never read
pub spans_first : (m : Machine) (bs : List Block) → cap_at (spans_of m bs) 0 ≡ 0
unfolding spans_of
spans_first m [] = refl
spans_first m (b ∷ bs) = refl
