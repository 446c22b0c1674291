-- A whole tape: its records by their place, and its first fault. From the definitions.
use mathlib.Core.Path.{◌≡◌, refl, sym, ap, subst, ◌∙◌}
use Prim.Native.Nat.{ℕ, zero, suc, ◌+◌, ◌≤◌, ◌<◌}
use native.Mathlib.Nat.{add-zero, zero-add}
use native.Mathlib.Numerals.{add-one}
use native.Mathlib.Omega.{arith}
use mathlib.Core.List.{List, ◌∷◌}
use lib.ListN.{length, drop, get_or, drop_of_length-le}
use lib.Seq.{get_or-drop}
use Rattle.machine.specs.Checks.{block_refusal}
use Rattle.machine.specs.declared.Block.{Block}
use Rattle.tape.specs.Tape.{record_at, records_in, blocks_from, tape_blocks}
use Rattle.display.specs.Display.{refusal_number, Fault, ◌at◌, ◌else◌}
use Rattle.tape.specs.Answers.{fault_from, head_refusal, tape_fault, tape_refusal}
use Rattle.display.specs.declared.Refusal.{Refusal}
use Rattle.display.proofs.Answers.{at_zero, above_zero, refusal_above}

-- Blocks from record j on: how many, and the one that k records later begins the rest.
length_from_lem : (s : List ℕ) (k n : ℕ) → length (blocks_from s k n) ≡ n
unfolding blocks_from
length_from_lem s k zero = refl
length_from_lem s k (suc n) = ap suc (length_from_lem s (suc k) n)

drop_from : (s : List ℕ) (j : ℕ) {k n : ℕ} → k < n → drop k (blocks_from s j n) ≡ record_at s (j + k) ∷ drop (suc k) (blocks_from s j n)
unfolding blocks_from
drop_from s j {k} {n = zero} h = absurd (omega arith)
drop_from s j {k = zero} {n = suc n} h = rw (add-zero j)
drop_from s j {k = suc k} {n = suc n} h =
    let e : suc j + k ≡ j + suc k = omega arith in
    drop_from s (suc j) {k = k} {n = n} (omega arith) ∙ ap (λ (i : ℕ). record_at s i ∷ drop (suc k) (blocks_from s (suc j) n)) e

-- Two faults of which neither has a number.
pub neither : (n p : ℕ) (f : Fault) → (n at p else f).number ≡ 0 → (n ≡ 0) × (f.number ≡ 0)
neither zero p f e = (refl, e)
neither (suc n) p f e = absurd (omega arith)

-- No record of these blocks is at fault.
each : (s : List ℕ) (j n p : ℕ) → (fault_from p (blocks_from s j n)).number ≡ 0 → (k : ℕ) → k < n → block_refusal (record_at s (j + k)) ≡ 0
unfolding blocks_from fault_from
each s j zero p e k h = absurd (omega arith)
each s j (suc n) p e zero h = rw (add-zero j) (neither (block_refusal (record_at s j)) p (fault_from (suc p) (blocks_from s (suc j) n)) e).0
each s j (suc n) p e (suc k) h =
    let i : suc j + k ≡ j + suc k = omega arith in
    let rest = (neither (block_refusal (record_at s j)) p (fault_from (suc p) (blocks_from s (suc j) n)) e).1 in
    rw i at (each s (suc j) n (suc p) rest k (omega arith))

module _ (s : List ℕ) where
  -- As many blocks as records.
  pub length_blocks : length (tape_blocks s) ≡ records_in s
  unfolding tape_blocks
  length_blocks = length_from_lem s 0 (records_in s)

  -- The blocks from record k on begin with that of record k.
  pub drop_blocks : {k : ℕ} → k < records_in s → drop k (tape_blocks s) ≡ record_at s k ∷ drop (k + 1) (tape_blocks s)
  unfolding tape_blocks
  drop_blocks {k} h = rw (add-one k) (drop_from s 0 h ∙ ap (λ (i : ℕ). record_at s i ∷ drop (suc k) (blocks_from s 0 (records_in s))) (zero-add k))

  -- Block k is that of record k.
  pub get_d_blocks : {k : ℕ} (d : Block) → k < records_in s → get_or (tape_blocks s) k d ≡ record_at s k
  get_d_blocks {k} d h =
      ap (λ (i : ℕ). get_or (tape_blocks s) i d) (sym (add-zero k)) ∙ sym (get_or-drop k (tape_blocks s) 0 d)
      ∙ ap (λ (t : List Block). get_or t 0 d) (drop_blocks h)

  -- The records before record k have passed: the fault of all is that of the others.
  abbrev pub PassedBefore : ℕ → Type 0
  PassedBefore k = fault_from 1 (tape_blocks s) ≡ fault_from (k + 1) (drop k (tape_blocks s))

  pub passed_none : PassedBefore 0
  passed_none = refl

  -- Record k passes too.
  pub passed_next : {k : ℕ} → PassedBefore k → k < records_in s → block_refusal (record_at s k) ≡ 0 → PassedBefore (k + 1)
  unfolding fault_from
  passed_next {k} p h e =
      p ∙ ap (fault_from (k + 1)) (drop_blocks h)
      ∙ at_zero (fault_from (suc (k + 1)) (drop (k + 1) (tape_blocks s))) (block_refusal (record_at s k) at (k + 1)) e
      ∙ ap (λ (p : ℕ). fault_from p (drop (k + 1) (tape_blocks s))) (sym (add-one (k + 1)))

  -- Record k is at fault, and by which refusal; no record is.
  pub fault_at : {k : ℕ} → PassedBefore k → k < records_in s → 0 < block_refusal (record_at s k)
      → fault_from 1 (tape_blocks s) ≡ block_refusal (record_at s k) at (k + 1)
  unfolding fault_from
  fault_at {k} p h l =
      p ∙ ap (fault_from (k + 1)) (drop_blocks h)
      ∙ above_zero (fault_from (suc (k + 1)) (drop (k + 1) (tape_blocks s))) (block_refusal (record_at s k) at (k + 1)) l

  pub refused_at_lem : {k : ℕ} (r : Refusal) → PassedBefore k → k < records_in s → block_refusal (record_at s k) ≡ refusal_number r
      → fault_from 1 (tape_blocks s) ≡ refusal_number r at (k + 1)
  refused_at_lem {k} r p h e = fault_at p h (rw e (refusal_above r)) ∙ ap (λ (n : ℕ). n at (k + 1)) e

  pub fault_none : {k : ℕ} → PassedBefore k → records_in s ≤ k → fault_from 1 (tape_blocks s) ≡ 0 at 0
  unfolding fault_from
  fault_none {k} p h =
      p ∙ ap (fault_from (k + 1)) (drop_of_length-le (tape_blocks s) {i = k} (rw length_blocks h))

  -- Where the head passes, the tape's fault is the records'; else it is the head's, at place 0.
  pub fault_records : head_refusal s ≡ 0 → tape_fault s ≡ fault_from 1 (tape_blocks s)
  unfolding tape_fault
  fault_records e = at_zero (fault_from 1 (tape_blocks s)) (head_refusal s at 0) e

  pub fault_head : 0 < head_refusal s → tape_fault s ≡ head_refusal s at 0
  unfolding tape_fault
  fault_head h = above_zero (fault_from 1 (tape_blocks s)) (head_refusal s at 0) h

  -- By the records themselves: all before k pass, k is at fault, or all pass.
  passed_to : (k : ℕ) → k ≤ records_in s → ((j : ℕ) → j < k → block_refusal (record_at s j) ≡ 0) → PassedBefore k
  passed_to zero h all = passed_none
  passed_to (suc k) h all =
      subst (λ (j : ℕ). PassedBefore j) (add-one k)
      (passed_next {k = k} (passed_to k (omega arith) (λ j l. all j (omega arith))) (omega arith) (all k (omega arith)))

  pub tape_faulty : {k : ℕ} → head_refusal s ≡ 0 → k < records_in s → ((j : ℕ) → j < k → block_refusal (record_at s j) ≡ 0)
      → 0 < block_refusal (record_at s k) → tape_fault s ≡ block_refusal (record_at s k) at (k + 1)
  tape_faulty {k} e h all l = fault_records e ∙ fault_at (passed_to k (omega arith) all) h l

  pub tape_faultless : head_refusal s ≡ 0 → ((j : ℕ) → j < records_in s → block_refusal (record_at s j) ≡ 0) → tape_fault s ≡ 0 at 0
  tape_faultless e all = fault_records e ∙ fault_none (passed_to (records_in s) (omega arith) all) (omega arith)

  -- A tape with no fault has no fault in its head and none in any record.
  pub tape_passed : tape_refusal s ≡ 0 → (head_refusal s ≡ 0) × ((k : ℕ) → k < records_in s → block_refusal (record_at s k) ≡ 0)
  unfolding tape_fault tape_blocks
  tape_passed e =
      let h = neither (head_refusal s) 0 (fault_from 1 (tape_blocks s)) e in
      (h.0, λ k l. rw zero-add at (each s 0 (records_in s) 1 h.1 k l))
