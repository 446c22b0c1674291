-- `machine::blocks::labelled_block` meets its contract: the label is the mark.
use mathlib.Core.Path.{◌∙◌}
use Rattle.arith.proofs.SignedLaws.{read_back_lem}
use Rattle.machine.specs.Labels.{plain_block, labelled_block}
use Rattle.machine.proofs.blocks.labelled_block.Goals as goal

pub returns : goal.returns
unfolding labelled_block
returns c =
    let a = c.args in
    let f = c.ranges in
    c.plain_block.ensures ∙ (λ i. plain_block (read_back_lem f.x i) (read_back_lem f.y i) (read_back_lem f.z i) a.feed a.radius a.label)
