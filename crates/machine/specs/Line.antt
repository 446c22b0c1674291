-- A line of blocks as a profile sees it: the junction cap where each block begins, and its reach, in (µm/s)².
use Rattle.std.specs.Prelude.{List, ◌∷◌, []}
use Rattle.profile.specs.declared.Span.{Span}
use Rattle.machine.specs.Numbers.{junction_cap, reach_of}
use Rattle.machine.specs.declared.Machine.{Machine}
use Rattle.machine.specs.declared.Block.{Block}

-- the blocks after a block
unfoldable pub spans_after : Machine → Block → List Block → List Span
spans_after m before [] = []
spans_after m before (b ∷ rest) = record { cap = junction_cap m.limits before b; reach = reach_of m b } ∷ spans_after m b rest

-- a whole line; its first block begins at junction 0, whose cap is never read
unfoldable pub spans_of : Machine → List Block → List Span
spans_of m [] = []
spans_of m (b ∷ rest) = record { cap = 0; reach = reach_of m b } ∷ spans_after m b rest
