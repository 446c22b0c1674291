-- `rs274::state::move_of` meets its contract, from the rounded positions.
use mathlib.Core.Path.{◌≡◌, ap, ◌∙◌}
use Rattle.arith.proofs.SignedLaws.{read_back_lem}
use Rattle.rs274.specs.Modal.{rounded_of}
use Rattle.rs274.proofs.Positions.{move_fits, move_back}
use Rattle.rs274.proofs.state.move_of.Goals as goal
use Rattle.rs274.proofs.state.move_of.Goals.{After-rounded-2}

module _ (c : After-rounded-2) where
  after_is : c.rounded.result ≡ rounded_of c.args.after
  after_is = c.rounded.ensures ∙ ap rounded_of (read_back_lem c.ranges.after)

  before_is : c.rounded-2.result ≡ rounded_of c.args.before
  before_is = c.rounded-2.ensures ∙ ap rounded_of (read_back_lem c.ranges.before)

pub overflow_sub-result : goal.overflow_sub-result
overflow_sub-result c =
    move_fits c.rounded.result c.rounded-2.result c.args.before c.args.after c.requires.0 c.requires.1 (after_is c) (before_is c)

pub returns : goal.returns
returns c =
    move_back c.rounded.result c.rounded-2.result c.args.before c.args.after c.requires.0 c.requires.1 (after_is c) (before_is c)
