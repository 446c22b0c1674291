-- `fields::read_field`: the bits within the bytes loaded are the field, from `field_number`.
use mathlib.Core.Path.{◌≡◌, ◌∙◌}
use Prim.Native.Nat.{◌/◌, ◌%◌}
use native.Mathlib.Omega.{arith}
use Rattle.fields.specs.Bytes.{Bytes}
use Rattle.fields.specs.Fields.{field_of}
use Rattle.fields.proofs.Fields.{field_number, field_lt}
use Rattle.fields.proofs.read_field.Goals as goal

pub returns : goal.returns
returns c =
    let a = c.args in
    let bytes : Bytes a.s.now = record { each = λ i. (c.type_inv.s i).fits } in
    let is : c.load.result / c.pow2.result % c.pow2-2.result ≡ field_of a.s.now a.at a.width =
    (λ i. c.load.ensures.is i / c.pow2.ensures.is i % c.pow2-2.ensures.is i)
    ∙ field_number bytes (a.at / 8) c.bytes_for-n.result (a.at % 8) a.width (omega arith) (omega arith) (omega arith) in
    record { is = is; small = rw is (field_lt a.s.now a.at a.width) }
