-- `words::scan::join` meets its contract: the slots so far have the number of the word that stands there, or none.
use Rattle.std.proofs.Common.{◌≡◌, ◌<◌, ℕ, pos, false, cond, Some, None, length, get_or}
use Rattle.words.specs.Words.{slots}
use Rattle.words.proofs.scan.join.Given as goal

abbrev pub invariant-loop-k : goal.invariant-loop-k
invariant-loop-k l =
    (length l.words ≡ slots) × ((k : ℕ) → k < l.k → get_or l.words k None ≡ cond (get_or l.stands k false) (Some (get_or l.values k (pos 0))) None)
