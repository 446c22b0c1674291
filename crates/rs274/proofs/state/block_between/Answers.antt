-- `rs274::state::block_between` meets its contract, from the moves on each axis.
use Rattle.rs274.proofs.Positions.{block_is}
use Rattle.rs274.proofs.state.block_between.Goals as goal

pub returns : goal.returns
returns c =
    block_is c.args.before c.args.after c.args.mark c.requires.0 c.requires.1 c.move_of-x.result c.move_of-y.result c.move_of-z.result
    c.feed_in_force.result c.plain_block.result c.move_of-x.ensures c.move_of-y.ensures c.move_of-z.ensures c.feed_in_force.ensures
    c.plain_block.ensures
