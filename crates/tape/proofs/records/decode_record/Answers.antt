-- `tape::records::decode_record` meets its contract, from `block_of_words`.
use mathlib.Core.Path.{◌∙◌}
use Prim.Native.Nat.{◌/◌, ◌%◌, ◌^◌}
use mir.Syntax.{w64}
use mir.Facts.{to_z-of_z}
use Rattle.machine.specs.Labels.{labelled_block}
use Rattle.tape.proofs.Words.{block_of_words}
use Rattle.tape.proofs.records.decode_record.Goals as goal

pub returns : goal.returns
returns c =
    c.labelled_block.ensures
    ∙ (λ i.
    labelled_block ((to_z-of_z {w = w64} (record { sfits = c.to_signed-x.type_inv }) ∙ c.to_signed-x.ensures) i)
    ((to_z-of_z {w = w64} (record { sfits = c.to_signed-y.type_inv }) ∙ c.to_signed-y.ensures) i)
    ((to_z-of_z {w = w64} (record { sfits = c.to_signed-z.type_inv }) ∙ c.to_signed-z.ensures) i)
    (c.feed_of-feed.ensures i) (c.read_word-second.result / 2 ^ 21 % 2 ^ 24) (c.read_word-second.result % 2 ^ 21))
    ∙ block_of_words c.args.s.now c.read_word-first.ensures.is c.read_word-second.ensures.is c.requires c.read_word-second.ensures.small
