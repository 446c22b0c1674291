-- `text::spaced_fits`: what is left over is the same, counted from any number on, from `length_spaced`.
use mathlib.Core.Path.{◌≡◌}
use Prim.Native.Nat.{◌+◌}
use lib.ListN.{length, drop}
use Rattle.text.specs.Text.{spaced}
use Rattle.text.proofs.spaced_fits.Given as goal

abbrev pub invariant-loop-n : goal.invariant-loop-n
invariant-loop-n l = l.left + length (spaced l.numbers) ≡ l.room + length (spaced (drop l.n-index l.numbers))
