-- `words::scan::part` meets its contract: the slots so far are as in the one list, the others as they were.
use Rattle.std.proofs.Common.{◌≡◌, ◌<◌, ◌≤◌, ℕ, pos, false, None, length, get_or}
use Rattle.std.specs.Option.{is_some, unwrap_or}
use Rattle.words.specs.Words.{slots}
use Rattle.words.proofs.scan.part.Given as goal

abbrev pub invariant-loop-k : goal.invariant-loop-k
invariant-loop-k l = record {
  told : length l.stands ≡ slots;
  numbers : length l.values ≡ slots;
  stands : (k : ℕ) → k < l.k → get_or l.stands k false ≡ is_some (get_or l.words k None);
  values : (k : ℕ) → k < l.k → get_or l.values k (pos 0) ≡ unwrap_or (get_or l.words k None) (get_or l.initial.values k (pos 0));
  still : (k : ℕ) → l.k ≤ k → get_or l.values k (pos 0) ≡ get_or l.initial.values k (pos 0);
}
