-- `text::store_spaced`: the numbers left to store lead to the same list, from `spaced_turn`.
use mathlib.Core.Path.{◌≡◌}
use Prim.Native.Nat.{◌+◌}
use lib.ListN.{length, drop}
use Rattle.text.specs.Text.{spaced}
use Rattle.text.specs.Store.{put}
use Rattle.text.proofs.store_spaced.Given as goal

abbrev pub invariant-loop-n : goal.invariant-loop-n
invariant-loop-n l = record {
  room : l.end + length (spaced (drop l.n-index l.numbers)) ≡ l.at + length (spaced l.numbers);
  rest : put l.out l.end (spaced (drop l.n-index l.numbers)) ≡ put l.initial.out l.at (spaced l.numbers);
}
