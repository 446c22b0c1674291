-- `tape::limits::store_limits` meets its contract: the three words are the limits' number, from `words_of_limits`.
use mathlib.Core.Path.{ap, ◌∙◌}
use native.Mathlib.Omega.{arith}
use Rattle.fields.specs.Bytes.{with_bytes}
use Rattle.fields.proofs.Bytes.{with_next}
use Rattle.tape.proofs.Words.{words_of_limits}
use Rattle.tape.proofs.limits.store_limits.Goals as goal

pub returns : goal.returns
returns c =
    with_next _ 0 16 8 _ _
    (with_next _ 0 8 8 _ _ c.write_word.ensures c.write_word-2.ensures (omega (arith, c.requires.0)) c.second_word-second.ensures.small)
    c.write_word-3.ensures (omega (arith, c.requires.0)) c.third_word-third.ensures.small
    ∙ ap (with_bytes c.args.out.now 0 24)
    (words_of_limits c.args.l c.first_word-first.ensures.is c.second_word-second.ensures.is c.third_word-third.ensures.is)
