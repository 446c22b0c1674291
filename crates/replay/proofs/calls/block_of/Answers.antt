-- `replay::calls::block_of` meets its contract: each field is a word. From what `word_of` and `to_signed` ensure.
use mathlib.Core.Path.{ap, ◌∙◌}
use Rattle.arith.proofs.SignedLaws.{read_back_lem}
use Rattle.fields.specs.Signed.{signed_of}
use Rattle.machine.specs.Labels.{plain_block}
use Rattle.replay.specs.Trace.{block_of, word_bits}
use Rattle.replay.proofs.calls.block_of.Goals as goal

pub returns : goal.returns
unfolding block_of
returns c =
    c.plain_block.ensures
    ∙ (λ i. plain_block
    ((read_back_lem (record { sfits = c.to_signed-x.type_inv }) ∙ c.to_signed-x.ensures ∙ ap (signed_of word_bits) c.word_of.ensures) i)
    ((read_back_lem (record { sfits = c.to_signed-y.type_inv }) ∙ c.to_signed-y.ensures ∙ ap (signed_of word_bits) c.word_of-2.ensures) i)
    ((read_back_lem (record { sfits = c.to_signed-z.type_inv }) ∙ c.to_signed-z.ensures ∙ ap (signed_of word_bits) c.word_of-3.ensures) i)
    (c.word_of-4.ensures i)
    (c.word_of-5.ensures i)
    (c.word_of-6.ensures i))
