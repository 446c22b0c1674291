-- `machine::check::check_block` meets its contract: each return stands after the tests that decide it, in the definition's order.
use borrow.Author.Tests.{eq-eqb, ne_eqb, lt-ltb, le-ltb}
use Rattle.machine.specs.Checks.{block_refusal}
use Rattle.machine.proofs.check.check_block.Goals as goal

pub returns-then-most-eq0 : goal.returns-then-most-eq0
unfolding block_refusal
returns-then-most-eq0 c = rw (← c.greatest_move-most.ensures) (simp (eq-eqb _ _ c.if-most-eq0.true))

pub returns-then-most-gt-MOST_MOVE : goal.returns-then-most-gt-MOST_MOVE
unfolding block_refusal
returns-then-most-gt-MOST_MOVE c = rw (← c.greatest_move-most.ensures) (simp (ne_eqb _ _ c.if-most-eq0.false, lt-ltb _ _ c.if-most-gt-MOST_MOVE.true))

pub returns-then-not-is_within : goal.returns-then-not-is_within
unfolding block_refusal
returns-then-not-is_within c =
    rw (← c.greatest_move-most.ensures, ← c.is_within.ensures) (simp (ne_eqb _ _ c.if-most-eq0.false, le-ltb _ _ c.if-most-gt-MOST_MOVE.false, c.if-not-is_within.true))

pub returns-then-b-gt-MOST_RADIUS : goal.returns-then-b-gt-MOST_RADIUS
unfolding block_refusal
returns-then-b-gt-MOST_RADIUS c =
    rw (← c.greatest_move-most.ensures, ← c.is_within.ensures)
    (simp (ne_eqb _ _ c.if-most-eq0.false, le-ltb _ _ c.if-most-gt-MOST_MOVE.false, c.if-not-is_within.false, lt-ltb _ _ c.if-b-gt-MOST_RADIUS.true))

pub returns-then-b-gt-MOST_MARK : goal.returns-then-b-gt-MOST_MARK
unfolding block_refusal
returns-then-b-gt-MOST_MARK c =
    rw (← c.greatest_move-most.ensures, ← c.is_within.ensures)
    (simp (ne_eqb _ _ c.if-most-eq0.false, le-ltb _ _ c.if-most-gt-MOST_MOVE.false, c.if-not-is_within.false, le-ltb _ _ c.if-b-gt-MOST_RADIUS.false, lt-ltb _ _ c.if-b-gt-MOST_MARK.true))

pub returns : goal.returns
unfolding block_refusal
returns c =
    rw (← c.greatest_move-most.ensures, ← c.is_within.ensures)
    (simp (ne_eqb _ _ c.if-most-eq0.false, le-ltb _ _ c.if-most-gt-MOST_MOVE.false, c.if-not-is_within.false, le-ltb _ _ c.if-b-gt-MOST_RADIUS.false, le-ltb _ _ c.if-b-gt-MOST_MARK.false))
