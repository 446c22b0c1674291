-- `text::store_refused`: the parts one behind the other, from `stored_next`.
use mathlib.Core.List.{append-nil}
use Prim.Native.Nat.{ℕ, ◌≤◌, ◌<◌, ◌^◌}
use native.Mathlib.Omega.{arith}
use lib.ListN.{length}
use Rattle.text.specs.Text.{decimal, spaced, refused_words}
use Rattle.text.proofs.Decimal.{length_word}
use Rattle.text.proofs.Store.{stored_next}
use Rattle.text.proofs.store_refused.Goals as goal

-- A number has at most 20 digits.
few : (n : ℕ) → n < 2 ^ 64 → length (decimal n) ≤ 20
few n h = length_word n h

pub store_number-behind-requires : goal.store_number-behind-requires
store_number-behind-requires c =
    omega (arith, few c.args.number c.ranges.number.fits, c.store_bytes-before.ensures.next, c.told-out)

pub store_bytes-requires : goal.store_bytes-requires
store_bytes-requires c =
    omega (arith, few c.args.number c.ranges.number.fits, c.store_bytes-before.ensures.next, c.store_number-behind.ensures.next, c.told-out)

pub returns : goal.returns
unfolding refused_words spaced
returns c =
    rw (append-nil (decimal c.args.number))
    (stored_next (stored_next c.store_bytes-before.ensures c.store_number-behind.ensures (omega arith)) c.store_bytes.ensures (omega arith))
