-- `planner::ring::stay`: the walk that is left comes to the end of the whole walk.
use Rattle.std.proofs.Common.{◌≡◌, suc, ◌-◌, refl, ◌∙◌, arith}
use Rattle.planner.specs.View.{view_of}
use Rattle.planner.proofs.Climbs.{stay_begins, stay_ends, stay_goes_on, stay_none}
use Rattle.planner.proofs.ring.stay.Goals as goal
use Rattle.planner.proofs.ring.stay.Goals.{After-stair_place-at}

pub loop-s-init : goal.loop-s-init
unfolding view_of
loop-s-init c =
    (omega arith, stay_begins c.args.memory.now _ _ c.stair_place-end.result c.args.cap refl c.stair_place-end.ensures.0 refl)

-- where the stair before the last that is left begins
module _ (c : After-stair_place-at) where
  one : c.loop-s.s ≡ suc (c.loop-s.s - 1)
  one = omega (arith, c.loop-s-test.true)

pub loop-s-preserved : goal.loop-s-preserved
unfolding view_of
loop-s-preserved c = (
  omega (arith, c.loop-s.invariant.0),
  stay_goes_on c.args.memory.now c.loop-s.s (c.loop-s.s - 1) c.loop-s.allows c.stair_place-at.result (one (goal.at.loop-s-preserved c).After-stair_place-at) c.stair_place-at.ensures.0 _ c.if-memory-at.false refl
      ∙ c.loop-s.invariant.1,
)

pub returns-after-loop-s : goal.returns-after-loop-s
returns-after-loop-s c =
    stay_none c.args.memory.now c.loop-s.s c.loop-s.allows (omega arith) ∙ c.loop-s.invariant.1

pub returns-then-memory-at : goal.returns-then-memory-at
unfolding view_of
returns-then-memory-at c =
    stay_ends c.args.memory.now c.loop-s.s (c.loop-s.s - 1) c.loop-s.allows c.stair_place-at.result (one (goal.at.returns-then-memory-at c).After-stair_place-at) c.stair_place-at.ensures.0 c.if-memory-at.true ∙ c.loop-s.invariant.1
