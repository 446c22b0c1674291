-- `text::store_number`: the last six digits behind those of the millions, from `decimal_last` and `stored_next`.
use mathlib.Core.Path.{◌≡◌}
use Prim.Native.Nat.{ℕ, ◌+◌, ◌/◌, ◌≤◌}
use native.Mathlib.Omega.{arith}
use lib.ListN.{length}
use Rattle.text.specs.Text.{decimal}
use Rattle.text.proofs.Decimal.{decimal_last, length_last}
use Rattle.text.proofs.Store.{stored_next}
use Rattle.text.proofs.+store_number.Goals as goal

-- How many digits stand above the last six.
size : (n : ℕ) → 1_000_000 ≤ n → length (decimal n) ≡ length (decimal (n / 1_000 / 1_000)) + 6
size n h = omega (arith, length_last 3 n (omega arith), length_last 3 (n / 1_000) (omega arith))

pub store_number-millions-requires : goal.store_number-millions-requires
store_number-millions-requires t c = (omega arith, omega (arith, size c.args.n (omega arith)))

pub store_group-end-requires : goal.store_group-end-requires
store_group-end-requires t c =
    omega (arith, size c.args.n (omega arith), c.store_number-millions.auto.out, c.store_number-millions.ensures.next)

pub store_group-requires : goal.store_group-requires
store_group-requires t c =
    omega (
      arith,
      size c.args.n (omega arith),
      c.store_group-end.auto.out,
      c.store_number-millions.auto.out,
      c.store_group-end.ensures.next,
      c.store_number-millions.ensures.next,
    )

pub returns : goal.returns
returns t c =
    rw (decimal_last 3 c.args.n (omega arith), decimal_last 3 (c.args.n / 1_000) (omega arith))
    (stored_next (stored_next c.store_number-millions.ensures c.store_group-end.ensures (omega arith)) c.store_group.ensures (omega arith))
