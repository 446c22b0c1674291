-- `text::put_named_row`: the first number is the words of a line, from `take_front`.
use mathlib.Core.Path.{◌≡◌}
use mathlib.Core.List.{◌∷◌}
use native.Mathlib.Omega.{arith}
use Rattle.text.specs.Text.{named_row}
use Rattle.text.proofs.Decimal.{length_word}
use Rattle.text.proofs.Store.{take_front, length_front, within}
use Rattle.text.proofs.Lines.{named_row_none}
use Rattle.text.proofs.put_named_row.Goals as goal
use Rattle.text.proofs.put_named_row.Goals.{In-Some}

-- The numbers are the first and the rest.
parts : (c : In-Some) → c.args.numbers.now ≡ c.in-Some.field-0-0.now ∷ c.in-Some.rest.now
parts c = c.in-Some.ensures.cases.0

pub returns-in_default : goal.returns-in_default
returns-in_default c = rw (named_row_none c.args.numbers.now c.args.name.now c.in_default.ensures.cases) c.put_line.ensures

pub store_number-end-requires : goal.store_number-end-requires
store_number-end-requires c =
    omega (arith, length_word c.in-Some.field-0-0.now (rw (parts (goal.at.store_number-end-requires c).In-Some) at (c.type_inv.numbers 0)).fits)

pub slice_bounds-words-end : goal.slice_bounds-words-end
slice_bounds-words-end c = within c.store_number-end.ensures (omega arith)

pub slice_bounds-put_named-end : goal.slice_bounds-put_named-end
slice_bounds-put_named-end c = length_front c.store_number-end.ensures

pub returns : goal.returns
unfolding named_row
returns c = rw (parts (goal.at.returns c).In-Some, ← take_front c.store_number-end.ensures) c.put_named.ensures
