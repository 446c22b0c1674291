-- `text::spaced_fits`: the longest numbers fit, from `spaced_most`; else what is left over is the same, counted from any number on,
-- from `length_spaced`.
use mathlib.Core.Path.{◌≡◌}
use Prim.Native.Nat.{ℕ, ◌+◌}
use native.Mathlib.Omega.{arith}
use lib.ListN.{length, get_or, drop}
use Rattle.std.proofs.lemmas.List.{drop_all}
use borrow.Author.Tests.{le-leb, lt-leb}
use Rattle.text.specs.Text.{decimal, spaced}
use Rattle.text.proofs.Lines.{length_spaced, spaced_most}
use Rattle.text.proofs.spaced_fits.Goals as goal
use Rattle.text.proofs.spaced_fits.Goals.{In-loop-n}

-- What the number of this turn takes.
taken : (c : In-loop-n) → length (spaced (drop c.loop-n.n-index c.args.numbers.now))
    ≡ length (decimal (get_or c.args.numbers.now c.loop-n.n-index 0)) + 1 + length (spaced (drop (c.loop-n.n-index + 1) c.args.numbers.now))
taken c = length_spaced c.args.numbers.now c.loop-n.n-index c.loop-n-test.true

pub returns-then-numbers-room : goal.returns-then-numbers-room
returns-then-numbers-room c =
    let s = c.args in
    rw (le-leb (length (spaced s.numbers.now)) s.room
    (omega (arith, spaced_most s.numbers.now λ i. omega (arith, c.type_inv.numbers i))))

pub returns-then-left-count : goal.returns-then-left-count
returns-then-left-count c =
    let s = c.args in
    rw (lt-leb (length (spaced s.numbers.now)) s.room (omega (arith, taken (goal.at.returns-then-left-count c).In-loop-n)))

pub loop-n-preserved : goal.loop-n-preserved
loop-n-preserved c = omega (arith, taken (goal.at.loop-n-preserved c).In-loop-n)

pub returns : goal.returns
unfolding spaced
returns c =
    let s = c.args in
    let none = drop_all {X = ℕ} c.loop-n.n-index s.numbers.now c.loop-n-test.false in
    rw (le-leb (length (spaced s.numbers.now)) s.room (omega (arith, rw none at c.loop-n.invariant)))
