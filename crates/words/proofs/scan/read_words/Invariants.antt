-- `words::scan::read_words` meets its contract: what is still to be read, behind the words that stand, leads to the same end.
use Rattle.std.proofs.Common.{◌≡◌, length}
use Rattle.words.specs.Pieces.{pieces_of}
use Rattle.words.specs.Words.{behind_words, slots, with_pieces, words_in}
use Rattle.words.proofs.scan.read_words.Given as goal

abbrev pub invariant-loop-rest : goal.invariant-loop-rest
invariant-loop-rest l = (length l.words ≡ slots) × (with_pieces (pieces_of l.rest) (words_in l.words) ≡ behind_words l.line (words_in l.initial.words))

abbrev pub decreases-loop-rest : goal.decreases-loop-rest
decreases-loop-rest l = length l.rest
