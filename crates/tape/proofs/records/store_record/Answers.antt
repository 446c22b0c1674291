-- `tape::records::store_record` meets its contract: the two words are the block's number, from `words_of_block`.
use mathlib.Core.Path.{ap, ◌∙◌}
use Prim.Native.Nat.{ℕ, ◌+◌, ◌*◌, ◌%◌, ◌^◌}
use native.Mathlib.Omega.{arith}
use mir.Syntax.{w64}
use mir.Facts.{to_z-of_z}
use Rattle.fields.specs.Bytes.{with_bytes}
use Rattle.fields.specs.Signed.{bits_of}
use Rattle.fields.proofs.Bytes.{with_next}
use Rattle.tape.specs.Tape.{move_bits}
use Rattle.tape.proofs.Words.{words_of_block}
use Rattle.tape.proofs.records.store_record.Goals as goal

pub returns : goal.returns
returns c =
    let b = c.args.b in
    with_next _ 0 8 8 _ _ c.write_word.ensures c.write_word-2.ensures (omega (arith, c.requires.0)) c.second_word-second.ensures.small
    ∙ ap (with_bytes c.args.out.now 0 16)
    (words_of_block b
    (c.to_bits-x.ensures.is ∙ ap (bits_of move_bits) (to_z-of_z {w = w64} {z = b.x} (record { sfits = omega arith })))
    (c.to_bits-y.ensures.is ∙ ap (bits_of move_bits) (to_z-of_z {w = w64} {z = b.y} (record { sfits = omega arith })))
    (c.to_bits-z.ensures.is ∙ ap (bits_of move_bits) (to_z-of_z {w = w64} {z = b.z} (record { sfits = omega arith })))
    c.first_word-first.ensures.is
    (c.second_word-second.ensures.is ∙ ap (λ (n : ℕ). b.feed % 2 ^ 19 * 2 ^ 45 + b.radius * 2 ^ 21 + n) c.label_of-label.ensures))
