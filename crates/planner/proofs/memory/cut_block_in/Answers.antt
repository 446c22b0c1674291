-- `planner::memory::cut_block_in`: the moves from their bits, the rest as it stands.
use Rattle.std.proofs.Common.{◌∙◌}
use Rattle.arith.proofs.SignedLaws.{field_back}
use Rattle.planner.specs.View.{place_from}
use Rattle.planner.proofs.Blocks.{block_is}
use Rattle.planner.proofs.memory.cut_block_in.Goals as goal

pub returns : goal.returns
unfolding place_from
returns c =
    block_is 21 (place_from c.args.memory.now c.args.at.base) _ _ _ _ c.labelled_block.ensures
    (field_back c.to_signed.result c.to_signed.type_inv ∙ c.to_signed.ensures)
    (field_back c.to_signed-2.result c.to_signed-2.type_inv ∙ c.to_signed-2.ensures)
    (field_back c.to_signed-3.result c.to_signed-3.type_inv ∙ c.to_signed-3.ensures)
