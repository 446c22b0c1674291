-- `text::store_words`: the words and the numbers one behind the other, from `stored_next`.
use native.Mathlib.Omega.{arith}
use Rattle.text.proofs.Store.{stored_next}
use Rattle.text.proofs.store_words.Goals as goal

pub returns : goal.returns
returns c = stored_next c.store_bytes-behind.ensures c.store_spaced.ensures (omega arith)
