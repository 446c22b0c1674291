-- `text::put_refused_named`: the number is among the words of a line, from `take_front`.
use native.Mathlib.Omega.{arith}
use Rattle.text.proofs.Store.{take_front, length_front, within}
use Rattle.text.proofs.put_refused_named.Goals as goal

pub slice_bounds-words-end : goal.slice_bounds-words-end
slice_bounds-words-end c = within c.store_refused-end.ensures (omega arith)

pub slice_bounds-put_named-end : goal.slice_bounds-put_named-end
slice_bounds-put_named-end c = length_front c.store_refused-end.ensures

pub returns : goal.returns
returns c = rw (← take_front c.store_refused-end.ensures) c.put_named.ensures
