-- `passes::brake_pass`: from the law of one step in place.
use borrow.Author.Rules.{rules}
use native.Mathlib.Omega.{arith}
use Prim.Native.Nat.{◌-◌}
use mathlib.Core.Path.{refl}
use Rattle.profile.proofs.InPlace.{store_end, store_brake}
use Rattle.passes.proofs.brake_pass.Goals as goal

pub loop-k-init : goal.loop-k-init
loop-k-init c = store_end c.args.line.now c.args.list.now c.requires _ refl

pub loop-k-preserved : goal.loop-k-preserved
loop-k-preserved c =
    store_brake c.args.line.now c.loop-k.list (search rules) (c.loop-k.k - 1) _ (search rules) c.brake_from.ensures (λ i q. c.loop-k.invariant i (omega arith))

pub returns : goal.returns
returns c = record { sized = search rules; braked = λ i p. c.loop-k.invariant i (omega arith) }
