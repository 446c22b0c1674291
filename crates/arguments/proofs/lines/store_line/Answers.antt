-- `arguments::lines::store_line` meets its contract: the parts one after the other, from `stored_next`.
use native.Mathlib.Omega.{arith}
use Rattle.text.proofs.Store.{stored_next}
use Rattle.arguments.proofs.lines.store_line.Goals as goal

pub returns : goal.returns
returns c =
    stored_next
    (stored_next
    (stored_next c.store-named.ensures c.store-told.ensures (omega arith))
    c.store-quoted.ensures (omega arith))
    c.store.ensures (omega arith)
