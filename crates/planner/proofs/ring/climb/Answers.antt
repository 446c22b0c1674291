-- `planner::ring::climb`: one law for each way out.
use Rattle.std.proofs.Common.{◌≡◌, ℕ, zero, suc, ◌+◌, ◌%◌, ◌^◌, ◌<◌, refl, ap, arith}
use Rattle.profile.specs.declared.Stay.{Stay}
use Rattle.profile.proofs.Stays.{stay_few}
use Rattle.line.specs.Blocks.{most_held}
use Rattle.line.specs.Ring.{stair_at}
use Rattle.planner.specs.View.{view_of}
use Rattle.planner.proofs.Climbs.{climbed_first, climbed_more}
use Rattle.planner.proofs.ring.climb.Goals as goal
use Rattle.planner.proofs.ring.climb.Goals.{After-stay-w, After-store_stair}

pub returns-then-held-eq0 : goal.returns-then-held-eq0
returns-then-held-eq0 c =
    climbed_first c.args.memory.now c.store_end.new.memory c.args.held c.args.cap c.args.reach c.if-held-eq0.true c.store_end.ensures

-- fewer stairs stay than there are places
few : (c : After-stay-w) → c.stay-w.result.count < most_held
few c =
    let r = view_of c.args.memory.now in
    omega (arith, ap (λ (w : Stay). w.count) c.stay-w.ensures, stay_few (stair_at r) (r.stairs_before % most_held) (((stair_at r (r.stairs_before % most_held)).gap + c.args.cap) % 2 ^ 64))

-- what is not 0 is above it
above : (n : ℕ) → (n ≡ 0 → ⊥) → 0 < n
above zero h = absurd (h refl)
above (suc n) h = omega arith

pub returns : goal.returns
unfolding view_of
returns c =
    climbed_more c.args.memory.now c.store_stair.new.memory c.store_end-2.new.memory c.args.held c.args.cap c.args.reach c.stair_place-at.result
    c.saturating_sub.result _ c.stay-w.result c.told-memory (above c.args.held c.if-held-eq0.false) c.stay-w.ensures
    c.stair_place-at.ensures.0 c.saturating_sub.ensures c.store_stair.ensures refl c.store_end-2.ensures

pub overflow_add-w : goal.overflow_add-w
overflow_add-w c = record { fits = omega (arith, few (goal.at.overflow_add-w c).After-stay-w) }
