-- `text::store_leading`: one digit, two or three, from `stored_cons` and the laws of their decimals.
use native.Mathlib.Omega.{arith}
use Prim.Native.Nat.{ℕ, ◌+◌, ◌≤◌, ◌<◌}
use mathlib.Core.Path.{◌≡◌, refl, ap}
use lib.ListN.{length, length-set}
use Rattle.text.specs.Text.{decimal}
use Rattle.text.proofs.Decimal.{decimal_one, decimal_two, decimal_three}
use Rattle.text.proofs.Store.{stored_none, stored_cons, stored_byte}
use Rattle.text.proofs.store_leading.Goals as goal
use Rattle.text.proofs.store_leading.Goals.{Start}

-- How many digits the number has, in each of the three cases.
module _ (s : Start) where
  abbrev n : ℕ
  n = s.args.n

  one : n < 10 → length (decimal n) ≡ 1
  one h = ap length (decimal_one n h)

  two : 10 ≤ n → n < 100 → length (decimal n) ≡ 2
  two h l = ap length (decimal_two n h l)

  three : 100 ≤ n → n < 1_000 → length (decimal n) ≡ 3
  three h l = ap length (decimal_three n h l)

pub store_group-requires : goal.store_group-requires
store_group-requires c =
    omega (arith, three c.before.before.before (omega arith) (omega arith))

pub returns-then-n-ge100 : goal.returns-then-n-ge100
returns-then-n-ge100 c =
    rw (decimal_three (n c.before.before.before.before.before.before.before) (omega arith) (omega arith))
    c.store_group.ensures

pub bounds-out-at : goal.bounds-out-at
bounds-out-at c = omega (arith, one c.before.before.before (omega arith))

pub returns-then-n-lt10 : goal.returns-then-n-lt10
returns-then-n-lt10 c =
    rw (decimal_one (n c.before.before.before) (omega arith))
    (stored_byte _ (omega (arith, one c.before.before.before (omega arith))))

pub bounds-out-at-2 : goal.bounds-out-at-2
bounds-out-at-2 c = omega (arith, two c.before.before.before (omega arith) (omega arith))

pub bounds-out-at-3 : goal.bounds-out-at-3
bounds-out-at-3 c = simp length-set (omega (arith, two c.before.before.before (omega arith) (omega arith)))

pub returns : goal.returns
returns c =
    let size = two c.before.before.before (omega arith) (omega arith) in
    rw (decimal_two (n c.before.before.before) (omega arith) (omega arith))
    (stored_cons (c.args.at + 1) _ refl (omega arith)
    (stored_cons (c.args.at + 2) _ (omega arith) (simp length-set (omega arith)) stored_none))
