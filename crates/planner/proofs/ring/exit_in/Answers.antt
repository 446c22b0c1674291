-- `planner::ring::exit_in`: the first stair and the end, from `start_is`.
use Rattle.std.proofs.Common.{ℕ, ◌-◌, ap, ◌∙◌}
use Rattle.profile.specs.Passes.{exit_from}
use Rattle.planner.specs.View.{view_of}
use Rattle.planner.proofs.Climbs.{start_is}
use Rattle.planner.proofs.ring.exit_in.Goals as goal

pub returns : goal.returns
unfolding view_of
returns c =
    c.exit_from.ensures
    ∙ ap (exit_from c.args.entry c.args.reach)
    (c.saturating_sub.ensures ∙ ap (λ (n : ℕ). n - c.args.reach) (start_is c.args.memory.now c.stair_place-at.result c.brake_from-start.result c.stair_place-at.ensures.0 c.brake_from-start.ensures))
