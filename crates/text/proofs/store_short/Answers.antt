-- `text::store_short`: the last three digits behind those of the thousands, from `decimal_last` and `stored_next`.
use native.Mathlib.Omega.{arith}
use Rattle.text.proofs.Decimal.{decimal_last, length_last}
use Rattle.text.proofs.Store.{stored_next}
use Rattle.text.proofs.store_short.Goals as goal

pub store_leading-end-requires : goal.store_leading-end-requires
store_leading-end-requires c = (omega arith, omega (arith, length_last 3 c.args.n (omega arith)))

pub store_group-requires : goal.store_group-requires
store_group-requires c =
    omega (
      arith,
      length_last 3 c.args.n (omega arith),
      c.out-2-1.given,
      c.store_leading-end.ensures.next,
    )

pub returns : goal.returns
returns c =
    rw (decimal_last 3 c.args.n (omega arith))
    (stored_next c.store_leading-end.ensures c.store_group.ensures (omega arith))
