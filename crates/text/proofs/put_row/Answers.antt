-- `text::put_row`: the first number is the words of a line, from `take_front`.
use mathlib.Core.Path.{◌≡◌}
use mathlib.Core.List.{◌∷◌}
use native.Mathlib.Omega.{arith}
use Rattle.text.specs.Text.{row}
use Rattle.text.proofs.Decimal.{length_word}
use Rattle.text.proofs.Store.{take_front, length_front, within}
use Rattle.text.proofs.Lines.{row_none, row_most}
use Rattle.text.proofs.put_row.Goals as goal
use Rattle.text.proofs.put_row.Goals.{In-Some}

-- The numbers are the first and the rest.
parts : (c : In-Some) → c.args.numbers.now ≡ c.in-Some.field-0-0.now ∷ c.in-Some.rest.now
parts c = c.in-Some.ensures.cases.0

pub returns-in_default : goal.returns-in_default
returns-in_default c = record {
  answered = rw (row_none c.args.numbers.now c.in_default.ensures.cases) c.put_bytes.ensures;
  short = row_most _ (λ i. omega (arith, c.type_inv.numbers i));
}

pub store_number-end-requires : goal.store_number-end-requires
store_number-end-requires c =
    omega (arith, length_word c.in-Some.field-0-0.now (rw (parts (goal.at.store_number-end-requires c).In-Some) at (c.type_inv.numbers 0)).fits)

pub slice_bounds-words-end : goal.slice_bounds-words-end
slice_bounds-words-end c = within c.store_number-end.ensures (omega arith)

pub slice_bounds-put_line-end : goal.slice_bounds-put_line-end
slice_bounds-put_line-end c = length_front c.store_number-end.ensures

pub returns : goal.returns
unfolding row
returns c = record {
  answered = rw (parts (goal.at.returns c).In-Some, ← take_front c.store_number-end.ensures) c.put_line.ensures;
  short = row_most _ (λ i. omega (arith, c.type_inv.numbers i));
}
