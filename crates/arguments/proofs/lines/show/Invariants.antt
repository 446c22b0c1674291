-- `arguments::lines::show` meets its contract: the bytes left to show lead to the same text.
use Rattle.std.proofs.Common.{◌≡◌, ◌++◌, map, take, drop}
use Rattle.arguments.specs.Lines.{shown_as}
use Rattle.arguments.proofs.lines.show.Given as goal

abbrev pub invariant-loop-byte : goal.invariant-loop-byte
invariant-loop-byte l = take l.byte-index l.text ++ map shown_as (drop l.byte-index l.text) ≡ map shown_as l.initial.text
