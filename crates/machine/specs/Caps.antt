-- The three caps of a junction (Q-7), (µm/s)²: what the feed and the axes allow, what the corner allows, and what the chord rule allows.
-- The junction cap is the least of them (the law `caps_least`).
use Rattle.std.specs.Prelude.{Bool, false, cond, ℕ, ◌+◌, min, eqb}
use Rattle.machine.specs.Numbers.{OpenCap, none, up_to, square_of, chord_cap, block_cap, corner_cap, under_cap}
use Rattle.machine.specs.declared.Limits.{Limits}
use Rattle.machine.specs.declared.Block.{Block}

-- what the chord rule allows a block: none without a radius
abbrev pub chord_of : Limits → Block → OpenCap
chord_of l b = cond (eqb b.radius 0) none (up_to (chord_cap l b.radius))

-- whether a cap is this number: none is no number
abbrev pub cap_is : OpenCap → ℕ → Bool
cap_is none p = false
cap_is (up_to q) p = eqb q p

-- the lower of two caps
abbrev pub lower_cap : OpenCap → OpenCap → OpenCap
lower_cap none c = c
lower_cap (up_to q) c = up_to (under_cap c q)

pub record JunctionCaps : Type 0 where
  -- the smaller v squared of the two blocks
  pub feed : ℕ
  pub corner : OpenCap
  -- the smaller of what the chord rule allows the two blocks
  pub chord : OpenCap

unfoldable pub caps_between : Limits → (a b : Block) → JunctionCaps
caps_between l a b =
    record {
      feed = min (square_of l a) (square_of l b);
      corner = corner_cap l a b;
      chord = lower_cap (chord_of l a) (chord_of l b);
    }

-- the least of the three
unfoldable pub least_cap : JunctionCaps → ℕ
least_cap c = under_cap c.chord (under_cap c.corner c.feed)

-- the corner cap as a number beside the block caps: one more than the smaller of these where it is none or greater. The junction cap is the smaller of
-- that and the block caps (the law `beside_least`)
unfoldable pub corner_between : Limits → (a b : Block) → ℕ
corner_between l a b = under_cap (corner_cap l a b) (min (block_cap l a) (block_cap l b) + 1)
