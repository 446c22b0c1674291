-- `words::numbers::read_number` meets its contract, by the sign.
use mathlib.Core.Path.{sym, ap, ◌∙◌}
use mathlib.Core.Bool.{true, false}
use native.Mathlib.Nat.{le_of_eq}
use Rattle.std.proofs.Common.{drop, length-drop, arith}
use lib.Seq.{take_all}
use Rattle.words.specs.Number.{after_sign}
use Rattle.words.proofs.NumberLaws.{number_none, number_minus, number_plus, number_unsigned}
use Rattle.words.proofs.numbers.read_number.Goals as goal

pub returns-in-empty : goal.returns-in-empty
returns-in-empty c = sym (number_none c.args.s.now (omega arith))

pub returns-in-45 : goal.returns-in-45
returns-in-45 c =
    let s = c.args.s.now in
    c.after_sign.ensures ∙ ap (after_sign true) (take_all _ (drop 1 s) (le_of_eq (length-drop 1 s)))
    ∙ sym (number_minus s (omega arith) (omega arith))

pub returns-in-43 : goal.returns-in-43
returns-in-43 c =
    let s = c.args.s.now in
    c.after_sign-in-43.ensures ∙ ap (after_sign false) (take_all _ (drop 1 s) (le_of_eq (length-drop 1 s)))
    ∙ sym (number_plus s (omega arith) (omega arith))

pub returns-in_default : goal.returns-in_default
returns-in_default c =
    c.after_sign-in_default.ensures
    ∙ sym (number_unsigned c.args.s.now (omega arith) (λ e. omega (arith, e)) (λ e. omega (arith, e)))
