-- `fields::write_field`: writing the bytes that the field lies in is writing the field, from `write_part`.
use mathlib.Core.Path.{◌∙◌, ap}
use Prim.Native.Nat.{ℕ, ◌+◌, ◌*◌, ◌-◌, ◌/◌, ◌%◌}
use native.Mathlib.Omega.{arith}
use Rattle.fields.specs.Bytes.{Bytes, with_bytes}
use Rattle.fields.specs.Fields.{with_part}
use Rattle.fields.proofs.Fields.{write_part}
use borrow.Author.Rules.{rules}
use Rattle.fields.proofs.write_field.Goals as goal

pub returns : goal.returns
returns c =
    let a = c.args in
    let n = c.bytes_for-n.result in
    let bytes : Bytes a.s.now = record { each = λ i. search rules } in
    c.store.ensures
    ∙ ap (with_bytes a.s.now (a.at / 8) n)
    (c.replaced.ensures
    ∙ ap (λ (m : ℕ). with_part m (8 * n - (a.at % 8 + a.width)) a.width a.v) c.load-bytes.ensures.is)
    ∙ write_part bytes (a.at / 8) n (a.at % 8) a.width a.v (omega arith) (omega arith) (omega arith)
