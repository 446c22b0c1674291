-- `text::store_spaced`: the numbers left to store lead to the same list, from `spaced_turn`.
use mathlib.Core.Path.{◌≡◌, sym, ◌∙◌}
use Prim.Native.Nat.{ℕ, ◌+◌}
use native.Mathlib.Omega.{arith}
use lib.ListN.{length, get_or, drop, length-set}
use Rattle.std.proofs.lemmas.List.{drop_all}
use Rattle.text.specs.Text.{decimal, spaced}
use Rattle.text.proofs.Store.{put_none}
use Rattle.text.proofs.Lines.{length_spaced, spaced_turn}
use Rattle.text.proofs.store_spaced.Goals as goal
use Rattle.text.proofs.store_spaced.Goals.{In-loop-n}

-- What the number of this turn takes.
taken : (c : In-loop-n) → length (spaced (drop c.loop-n.n-index c.args.numbers.now))
    ≡ length (decimal (get_or c.args.numbers.now c.loop-n.n-index 0)) + 1 + length (spaced (drop (c.loop-n.n-index + 1) c.args.numbers.now))
taken c = length_spaced c.args.numbers.now c.loop-n.n-index c.loop-n-test.true

pub bounds-out-end : goal.bounds-out-end
bounds-out-end c = omega (arith, taken (goal.at.bounds-out-end c).In-loop-n)

pub store_number-end-requires : goal.store_number-end-requires
store_number-end-requires c = simp length-set (omega (arith, taken (goal.at.store_number-end-requires c).In-loop-n))

pub loop-n-preserved : goal.loop-n-preserved
loop-n-preserved c =
    let r = c.store_number-end.ensures in
    let size = taken (goal.at.loop-n-preserved c).In-loop-n in
    record {
      room = omega (arith, r.next);
      rest = spaced_turn _ _ _ _ (omega arith) c.loop-n-test.true r ∙ c.loop-n.invariant.rest;
    }

pub returns : goal.returns
unfolding spaced
returns c =
    let inv = c.loop-n.invariant in
    let none = drop_all {X = ℕ} c.loop-n.n-index c.args.numbers.now c.loop-n-test.false in
    record { bytes = sym (put_none _ _) ∙ rw none at inv.rest; next = omega (arith, rw none at inv.room) }
