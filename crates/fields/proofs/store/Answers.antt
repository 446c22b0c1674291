-- `fields::store`: the bytes left to write lead to the end state, from `store_next`.
use mathlib.Core.Path.{◌≡◌, sym, ◌∙◌}
use native.Mathlib.Omega.{arith}
use Rattle.fields.proofs.Bytes.{store_next, store_none}
use Rattle.fields.proofs.store.Goals as goal

pub loop-i-preserved : goal.loop-i-preserved
loop-i-preserved c = store_next _ _ _ _ c.loop-i-test.true (omega arith) ∙ c.loop-i.invariant

pub returns : goal.returns
returns c =
    let e : c.loop-i.i ≡ 0 = omega arith in
    sym (store_none _ _ _) ∙ rw e at c.loop-i.invariant
