-- `planner::memory::block_in`: the moves from their words, the rest as it stands.
use Rattle.std.proofs.Common.{◌∙◌}
use Rattle.arith.proofs.SignedLaws.{field_back}
use Rattle.planner.specs.View.{place_from}
use Rattle.planner.proofs.Blocks.{block_is}
use Rattle.planner.proofs.memory.block_in.Goals as goal

pub returns : goal.returns
unfolding place_from
returns c =
    block_is 64 (place_from c.args.memory.now c.args.at.base) _ _ _ _ c.labelled_block.ensures
    (field_back c.signed_word.result c.signed_word.type_inv ∙ c.signed_word.ensures)
    (field_back c.signed_word-2.result c.signed_word-2.type_inv ∙ c.signed_word-2.ensures)
    (field_back c.signed_word-3.result c.signed_word-3.type_inv ∙ c.signed_word-3.ensures)
