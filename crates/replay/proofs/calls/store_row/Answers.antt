-- `replay::calls::store_row` meets its contract: four numbers from the beginning, the others in the rest. From what `to_bits` and
-- `store_given_numbers` ensure.
use mathlib.Core.List.{List, ◌∷◌, []}
use mathlib.Core.Path.{refl, ap, ◌∙◌}
use Prim.Native.Nat.{ℕ, ◌-◌}
use native.Mathlib.Omega.{arith}
use lib.ListN.{length, length-set, length-drop, length-take}
use lib.Seq.{sets, length-sets}
use borrow.Rule.Slice.PartMut.{put_mid, same_len_mid}
use Rattle.arith.proofs.SignedLaws.{field_back}
use Rattle.fields.specs.Signed.{bits_of}
use Rattle.line.specs.Answers.{given_numbers}
use Rattle.replay.specs.Trace.{word_bits}
use Rattle.machine.proofs.Runs.{stored_both}
use Rattle.replay.proofs.calls.store_row.Goals as goal

-- the four numbers from the beginning
abbrev front : (number x y z : ℕ) → List ℕ
front number x y z = number ∷ x ∷ y ∷ z ∷ []

pub shape_of-row : goal.shape_of-row
shape_of-row c =
    let row = c.args.row.now in
    same_len_mid 4 (length (sets row 0 (front c.args.number c.to_bits.result c.to_bits-2.result c.to_bits-3.result)) - 4) (sets row 0 (front c.args.number c.to_bits.result c.to_bits-2.result c.to_bits-3.result)) c.store_given_numbers.new.list c.store_given_numbers.auto.list ∙ length-sets row 0 (front c.args.number c.to_bits.result c.to_bits-2.result c.to_bits-3.result)

pub returns : goal.returns
returns c =
    let g = c.args.g in
    let row = c.args.row.now in
    let rest = length (sets row 0 (front c.args.number c.to_bits.result c.to_bits-2.result c.to_bits-3.result)) - 4 in
    ap (put_mid 4 rest (sets row 0 (front c.args.number c.to_bits.result c.to_bits-2.result c.to_bits-3.result))) c.store_given_numbers.ensures
    ∙ stored_both row (front c.args.number c.to_bits.result c.to_bits-2.result c.to_bits-3.result) (given_numbers g) 4 rest refl (omega (arith, length-sets row 0 (front c.args.number c.to_bits.result c.to_bits-2.result c.to_bits-3.result), c.requires)) (omega (arith, length-sets row 0 (front c.args.number c.to_bits.result c.to_bits-2.result c.to_bits-3.result), c.requires))
    ∙ (λ i. c.args.number
    ∷ (c.to_bits.ensures.is ∙ ap (bits_of word_bits) (field_back g.block.x c.struct_told-3-1.given.0.1)) i
    ∷ (c.to_bits-2.ensures.is ∙ ap (bits_of word_bits) (field_back g.block.y c.struct_told-3-1.given.1.0.1)) i
    ∷ (c.to_bits-3.ensures.is ∙ ap (bits_of word_bits) (field_back g.block.z c.struct_told-3-1.given.1.1.0.1)) i
    ∷ given_numbers g)

pub slice_bounds-store_given_numbers-count : goal.slice_bounds-store_given_numbers-count
slice_bounds-store_given_numbers-count c = simp length-set (omega arith)

pub slice_bounds-store_given_numbers-start : goal.slice_bounds-store_given_numbers-start
slice_bounds-store_given_numbers-start c = simp length-set (omega arith)

pub store_given_numbers-requires : goal.store_given_numbers-requires
store_given_numbers-requires c = simp (length-take, length-drop, length-set) (omega arith)
