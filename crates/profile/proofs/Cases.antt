-- Worked plans, computed from the definitions, in (µm/s)². The first three have the caps and reaches of document 01's proof
-- cases on machine M.
use mathlib.Core.Path.{◌≡◌, refl}
use mathlib.Core.List.{◌∷◌, []}
use Prim.Native.Nat.{ℕ}
use Rattle.profile.specs.declared.Span.{Span}
use Rattle.profile.specs.Passes.{brake, start_limit, forward, plan_of}
use Rattle.profile.specs.Stairs.{stair, stairs_of, stairs_after}

abbrev span : ℕ → ℕ → Span
span c r = record { cap = c; reach = r }

-- One block; two straight on; two at a right angle; a line whose junctions are held in turn by the forward pass, a cap and
-- the backward pass; a committed squared speed from which there is no lawful profile.
plans : (plan_of 0 (span 0 400_000_000 ∷ []) ≡ 0 ∷ 0 ∷ [])
    × (plan_of 0 (span 0 400_000_000 ∷ span 400_000_000 400_000_000 ∷ []) ≡ 0 ∷ 400_000_000 ∷ 0 ∷ [])
    × (plan_of 0 (span 0 400_000_000 ∷ span 2_000_000 400_000_000 ∷ []) ≡ 0 ∷ 2_000_000 ∷ 0 ∷ [])
    × (plan_of 1 (span 0 4 ∷ span 9 4 ∷ span 6 4 ∷ span 9 3 ∷ []) ≡ 1 ∷ 5 ∷ 6 ∷ 3 ∷ 0 ∷ [])
    × (plan_of 5 (span 0 4 ∷ []) ≡ 0 ∷ 0 ∷ [])
unfolding brake start_limit forward plan_of
plans = (refl, refl, refl, refl, refl)

-- The stairs of a line none of whose junctions hides another, and of one whose second junction hides the first.
stairs : (stairs_after (span 0 4 ∷ span 9 4 ∷ span 6 4 ∷ span 9 3 ∷ []) ≡ stair 4 9 ∷ stair 4 6 ∷ stair 4 9 ∷ stair 3 0 ∷ [])
    × (stairs_after (span 0 4 ∷ span 9 4 ∷ span 2 4 ∷ span 9 3 ∷ []) ≡ stair 8 2 ∷ stair 4 9 ∷ stair 3 0 ∷ [])
unfolding stairs_of stairs_after
stairs = (refl, refl)
