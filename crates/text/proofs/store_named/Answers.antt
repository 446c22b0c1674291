-- `text::store_named`: the space, the name and the line feed behind the words and the numbers, from `stored_next`.
use mathlib.Core.Path.{◌≡◌, refl, ◌∙◌}
use Prim.Native.Nat.{◌+◌, ◌≤◌}
use native.Mathlib.Omega.{arith}
use lib.ListN.{length, length-append, length-set}
use Rattle.text.specs.Text.{space, line_feed, spaced, named}
use Rattle.text.proofs.Store.{stored_next, stored_cons, stored_byte}
use Rattle.text.proofs.Lines.{length_named}
use Rattle.text.proofs.store_named.Goals as goal
use Rattle.text.proofs.store_named.Goals.{After-out-1, After-out-2-1, Start}

-- Behind the numbers the name has room, with a byte before it and one behind.
module _ (c : After-out-1) where
  abbrev s : Start
  s = c.before.before.before.before.before.before.before.before

  room : c.store_words-before.result + 1 + length s.args.name.now + 1 ≤ length c.store_words-before.new.out
  room =
      omega (
        arith,
        c.out-1.given,
        c.store_words-before.ensures.next,
        length-append s.args.words.now (spaced s.args.numbers.now),
        length_named s.args.words.now s.args.numbers.now s.args.name.now,
      )

-- Behind the name there is a byte left, and the whole is as long as it was.
module _ (c : After-out-2-1) where
  long : length c.store_bytes-last.new.out ≡ length c.store_words-before.new.out
  long = c.out-2-1.given ∙ simp length-set

  ends : c.store_words-before.result + 1 + length c.args.name.now + 1 ≤ length c.store_words-before.new.out → c.store_bytes-last.result + 1 ≤ length c.store_bytes-last.new.out
  ends r = omega (arith, long, r, c.store_bytes-last.ensures.next)

pub store_words-before-requires : goal.store_words-before-requires
store_words-before-requires c =
    omega (arith, length_named c.args.words.now c.args.numbers.now c.args.name.now)

pub bounds-out-before : goal.bounds-out-before
bounds-out-before c = omega (arith, room (goal.at.bounds-out-before c).After-out-1)

pub overflow_add-before : goal.overflow_add-before
overflow_add-before c = omega (arith, room (goal.at.overflow_add-before c).After-out-1, c.out-1.given)

pub store_bytes-last-requires : goal.store_bytes-last-requires
store_bytes-last-requires c = simp length-set (omega (arith, room (goal.at.store_bytes-last-requires c).After-out-1))

pub bounds-out-last : goal.bounds-out-last
bounds-out-last c = omega (arith, ends (goal.at.bounds-out-last c).After-out-2-1 (room (goal.at.bounds-out-last c).After-out-1))

pub overflow_add-result : goal.overflow_add-result
overflow_add-result c = omega (arith, ends (goal.at.overflow_add-result c).After-out-2-1 (room (goal.at.overflow_add-result c).After-out-1), long (goal.at.overflow_add-result c).After-out-2-1, c.out-1.given)

pub returns : goal.returns
unfolding named
returns c =
    let free = room (goal.at.returns c).After-out-1 in
    let last = ends (goal.at.returns c).After-out-2-1 (room (goal.at.returns c).After-out-1) in
    stored_next
    (stored_next c.store_words-before.ensures
    (stored_cons (c.store_words-before.result + 1) space refl (omega arith) c.store_bytes-last.ensures) (omega arith))
    (stored_byte line_feed (omega arith)) (omega arith)
