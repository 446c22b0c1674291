-- `words::numbers::with_decimals` meets its contract: nothing follows, another byte than the point, or decimals.
use mathlib.Core.Path.{sym, ap, ◌∙◌}
use native.Mathlib.Nat.{le_of_eq}
use Rattle.std.proofs.Common.{Some, drop, length-drop, arith}
use lib.Seq.{take_all}
use mir.Syntax.{w64}
use mir.Facts.{to_z-of_z}
use Rattle.words.specs.Number.{of_decimals}
use Rattle.words.proofs.NumberLaws.{rest_none, rest_other, rest_point}
use Rattle.words.proofs.numbers.with_decimals.Goals as goal

pub returns-in-empty : goal.returns-in-empty
returns-in-empty c =
    ap Some (to_z-of_z {w = w64} (record { sfits = c.signed_by.type_inv }) ∙ c.signed_by.ensures)
    ∙ sym (rest_none _ _ c.args.rest.now (omega arith))

pub returns-in-46 : goal.returns-in-46
returns-in-46 c =
    let a = c.args in
    let s = a.rest.now in
    c.of_decimals.ensures
    ∙ ap (of_decimals a.negative a.whole) (take_all _ (drop 1 s) (le_of_eq (length-drop 1 s)))
    ∙ sym (rest_point _ _ s (omega arith) (omega arith))

pub returns-in_default : goal.returns-in_default
returns-in_default c = sym (rest_other _ _ c.args.rest.now (omega arith) (λ e. omega (arith, e)))
