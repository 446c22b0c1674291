-- `text::store_line`: the line feed behind the words and the numbers, from `stored_next`.
use Prim.Native.Nat.{◌+◌, ◌≤◌}
use native.Mathlib.Omega.{arith}
use lib.ListN.{length, length-append}
use Rattle.text.specs.Text.{line_feed, spaced, line}
use Rattle.text.proofs.Store.{stored_next, stored_byte}
use Rattle.text.proofs.Lines.{length_line}
use Rattle.text.proofs.store_line.Goals as goal
use Rattle.text.proofs.store_line.Goals.{After-out-1, Start}

-- The numbers end before the line's end.
module _ (c : After-out-1) where
  abbrev s : Start
  s = c.before.before.before.before.before.before.before

  ends : c.store_words-end.result + 1 ≤ length c.store_words-end.new.out
  ends =
      omega (
        arith,
        c.out-1.given,
        c.store_words-end.ensures.next,
        length-append s.args.words.now (spaced s.args.numbers.now),
        length_line s.args.words.now s.args.numbers.now,
      )

pub store_words-end-requires : goal.store_words-end-requires
store_words-end-requires c =
    omega (arith, length_line c.args.words.now c.args.numbers.now)

pub bounds-out-end : goal.bounds-out-end
bounds-out-end c = omega (arith, ends (goal.at.bounds-out-end c).After-out-1)

pub overflow_add-result : goal.overflow_add-result
overflow_add-result c = omega (arith, ends (goal.at.overflow_add-result c).After-out-1, c.out-1.given)

pub returns : goal.returns
unfolding line
returns c = stored_next c.store_words-end.ensures (stored_byte line_feed (omega (arith, ends (goal.at.returns c).After-out-1))) (omega arith)
