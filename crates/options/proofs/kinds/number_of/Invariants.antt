-- `options::kinds::number_of`: a turn goes one digit further.
use Rattle.std.proofs.Common.{◌≡◌, ◌≤◌, ◌<◌, ◌^◌, length, drop}
use Rattle.options.specs.Kinds.{value_from}
use Rattle.options.proofs.kinds.number_of.Given as goal

-- the digits from here on, after those of this value, say the number
abbrev pub invariant-loop-byte : goal.invariant-loop-byte
invariant-loop-byte l = (length l.word ≤ 9) × (l.value < 10 ^ l.byte-index) × (value_from l.value (drop l.byte-index l.word) ≡ value_from 0 l.word)
