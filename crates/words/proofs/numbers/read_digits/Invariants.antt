-- `words::numbers::read_digits` meets its contract: what is read and what is still to be read are the whole, by their number and by what they
-- write.
use Rattle.std.proofs.Common.{◌≡◌, ◌+◌, ◌^◌, ◌<◌, length, drop}
use Rattle.text.specs.Text.{value, value_behind}
use Rattle.words.specs.Leading.{leading}
use Rattle.words.specs.Pieces.{digit}
use Rattle.words.proofs.numbers.read_digits.Given as goal

abbrev pub invariant-loop-count : goal.invariant-loop-count
invariant-loop-count l =
    (l.value < 10 ^ l.count)
    × ((l.count + length (leading digit (drop l.count l.s)) ≡ length (leading digit l.s)) × (value_behind l.value (leading digit (drop l.count l.s)) ≡ value (leading digit l.s)))
