-- `text::store_group`: three bytes one behind the other, from `stored_cons`.
use native.Mathlib.Omega.{arith}
use Prim.Native.Nat.{◌+◌, ◌/◌, ◌%◌}
use mathlib.Core.Path.{◌≡◌, refl}
use lib.ListN.{length-set}
use Rattle.text.proofs.Store.{stored_none, stored_cons}
use Rattle.text.proofs.store_group.Goals as goal

pub returns : goal.returns
returns c =
    let n = c.args.n in
    let first : n / 10 / 10 % 10 ≡ n % 1_000 / 100 = omega arith in
    let second : n / 10 % 10 ≡ n % 1_000 / 10 % 10 = omega arith in
    let third : n % 10 ≡ n % 1_000 % 10 = omega arith in
    rw (first, second, third)
    (stored_cons (c.args.at + 1) _ refl (omega arith)
    (stored_cons (c.args.at + 2) _ (omega arith) (simp length-set (omega arith))
    (stored_cons (c.args.at + 3) _ (omega arith) (simp length-set (omega arith)) stored_none)))
