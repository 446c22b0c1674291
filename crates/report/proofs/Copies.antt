-- A list that is stored number by number over the beginning of another. From the laws of runs.
use Rattle.std.proofs.Common.{◌≡◌, ℕ, ◌+◌, ◌<◌, ◌≤◌, List, ◌++◌, length, get_or, drop, set, sym, ap, ◌∙◌, zero-add, add-one, arith, drop_of_length-le, drop-cons}
use lib.Seq.{sets, sets-eq}
use Rattle.tapeplan.specs.Sheet.{over}

-- before number k is copied: what is left to store leads to the end
abbrev pub Copying : (from before to : List ℕ) (k : ℕ) → Type 0
Copying from before to k = sets to k (drop k from) ≡ sets before 0 from

-- one number more, and all of them
pub copy_next : (from before to : List ℕ) (k : ℕ) → k < length from → Copying from before to k → Copying from before (set to k (get_or from k 0)) (k + 1)
copy_next from before to k h c = rw (add-one k) (sym (ap (sets to k) (drop-cons from k 0 h)) ∙ c)

pub copy_all : (from before to : List ℕ) (k : ℕ) → length from ≤ length before → length from ≤ k → Copying from before to k → to ≡ over from before
copy_all from before to k h g c =
    sym (ap (sets to k) (drop_of_length-le from g)) ∙ c ∙ sets-eq from before 0 (omega arith) ∙ ap (λ (n : ℕ). from ++ drop n before) (zero-add (length from))
