-- `fields::load`: the number so far is that of the bytes passed, from `number_next`; it fits a word, from `next_lt`.
use mathlib.Core.Path.{◌≡◌}
use lib.ListN.{take}
use Rattle.fields.specs.Bytes.{number_of}
use Rattle.fields.proofs.load.Given as goal

abbrev pub invariant-loop-b : goal.invariant-loop-b
invariant-loop-b l = l.number ≡ number_of (take l.b-index l.b-items)
