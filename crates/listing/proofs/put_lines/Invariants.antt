-- `listing::put_lines`: a turn stores one line more. From the laws of lines.
use Rattle.std.proofs.Common.{◌≡◌, length}
use Rattle.listing.specs.Parts.{part_size}
use Rattle.listing.proofs.Lines.{Storing}
use Rattle.listing.proofs.put_lines.Given as goal

abbrev pub invariant-loop-k : goal.invariant-loop-k
invariant-loop-k l = record { sized : length l.text ≡ part_size; stored : Storing l.blocks l.tape.sheet.now l.tape.plan.now l.first l.initial.text l.at l.text l.end l.k }
