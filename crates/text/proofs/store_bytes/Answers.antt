-- `text::store_bytes`: what is copied is stored, from `stored_copy`.
use native.Mathlib.Omega.{arith}
use Rattle.text.proofs.Store.{stored_copy}
use Rattle.text.proofs.store_bytes.Goals as goal

pub returns : goal.returns
returns c = stored_copy c.args.out.now c.args.at _ c.copy_from_slice.ensures.after (omega arith)
