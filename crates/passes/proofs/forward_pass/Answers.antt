-- `passes::forward_pass`: from the law of one step in place.
use borrow.Author.Rules.{rules}
use Rattle.profile.proofs.Kept.{forwarded_all}
use Rattle.profile.proofs.InPlace.{in_place_first, in_place_exit}
use Rattle.passes.proofs.forward_pass.Goals as goal

pub loop-k-init : goal.loop-k-init
loop-k-init c = in_place_first c.args.line.now c.args.list.now c.requires.sized c.args.start c.requires.braked

pub loop-k-preserved : goal.loop-k-preserved
loop-k-preserved c =
    in_place_exit c.args.line.now c.loop-k.list (search rules) c.args.start c.loop-k.k _ (search rules) c.exit_from.ensures c.loop-k.invariant

pub returns : goal.returns
returns c = forwarded_all c.args.start c.args.line.now c.loop-k.list (search rules) (λ i p. c.loop-k.invariant.0 i (search rules))
