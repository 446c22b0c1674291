-- `fields::store`: the bytes left to write lead to the end state, from `store_next`.
use mathlib.Core.Path.{◌≡◌}
use Rattle.fields.specs.Bytes.{with_bytes}
use Rattle.fields.proofs.store.Given as goal

abbrev pub invariant-loop-i : goal.invariant-loop-i
invariant-loop-i l = with_bytes l.s l.from l.i l.rest ≡ with_bytes l.initial.s l.from l.n l.v
