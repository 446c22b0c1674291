-- A tape planned in a list with room for any plan: the plan is over its beginning, and 11 is never given. From the laws of a tape's faults.
use mathlib.Core.Path.{◌≡◌, refl, sym, ap, ◌∙◌}
use mathlib.Core.List.{List, ◌++◌}
use Prim.Native.Nat.{ℕ, zero, suc, ◌+◌, ◌≤◌, ◌<◌, min}
use native.Mathlib.Omega.{arith}
use borrow.Author.Tests.{eq-eqb}
use mathlib.Core.Bool.{cond}
use lib.ListN.{length, take, drop, take-append-drop, get_or-append}
use lib.Seq.{length_front, length-take-le}
use Rattle.profile.specs.Line.{number_at}
use Rattle.display.specs.Display.{Fault, ◌at◌, by_number}
use Rattle.display.proofs.Answers.{at_zero, above_zero}
use Rattle.tape.specs.Answers.{most_blocks}
use Rattle.tape.specs.Tape.{records_in}
use Rattle.tapeplan.specs.Planned.{SurveyedTape, WholeTape, most_junctions, plan_fault, planned_means, tape_plan, whole_fault, whole_refusal}
use Rattle.tapeplan.specs.Sheet.{over, sheet_size}
use Rattle.std.specs.Prelude.{⊤, Result, Ok}
use Rattle.display.specs.declared.RefusedAt.{RefusedAt}
use Rattle.tapeplan.proofs.Answered.{whole_faultless, whole_passed}
use Rattle.tapeplan.proofs.Plans.{accepted_junctions, accepted_records}
use Rattle.tapeplan.specs.declared.Measured.{Measured}

-- a list over the beginning of another, which keeps its length
over_length : (from to : List ℕ) → length from ≤ length to → length (over from to) ≡ length to
over_length from to h = length_front to from (length from) (sym (length-take-le (length from) to h))

module _ (s loaded : List ℕ) where
  -- a list with a number for each junction, as far as the longest tape has them, is never at fault
  abbrev lent : ℕ
  lent = min (records_in s) most_blocks + 1

  junctions : whole_refusal s loaded ≡ 0 → lent ≡ records_in s + 1
  junctions z = omega (arith, accepted_records s (whole_passed s loaded z).0)

  fault_same : plan_fault s loaded lent ≡ whole_fault s loaded
  unfolding plan_fault
  fault_same = go (whole_refusal s loaded) refl
    where
      go : (n : ℕ) → whole_refusal s loaded ≡ n → plan_fault s loaded lent ≡ whole_fault s loaded
      go zero z =
          at_zero _ (whole_fault s loaded) z ∙ ap (λ t. cond t 0 11 at 0) (eq-eqb lent (records_in s + 1) (junctions z))
          ∙ sym (whole_faultless s loaded (whole_passed s loaded z).0 (whole_passed s loaded z).1)
      go (suc n) z = let above : 0 < whole_refusal s loaded = omega arith in above_zero _ (whole_fault s loaded) above

  -- so planning in the front of a list leaves the plan over its beginning, or nothing
  plan_over : (before : List ℕ) {planned : List ℕ} → planned ≡ by_number (whole_refusal s loaded) (tape_plan s loaded) (take lent before)
      → planned ++ drop lent before ≡ by_number (whole_refusal s loaded) (over (tape_plan s loaded) before) before
  plan_over before {planned} e = go (whole_refusal s loaded) refl
    where
      go : (n : ℕ) → whole_refusal s loaded ≡ n → planned ++ drop lent before ≡ by_number (whole_refusal s loaded) (over (tape_plan s loaded) before) before
      go zero z =
          let size : lent ≡ length (tape_plan s loaded) = omega (arith, accepted_junctions s loaded (whole_passed s loaded z).0, junctions z) in
          (λ i. (e ∙ at_zero (tape_plan s loaded) (take lent before) z) i ++ drop (size i) before)
          ∙ sym (at_zero (over (tape_plan s loaded) before) before z)
      go (suc n) z =
          let above : 0 < whole_refusal s loaded = omega arith in
          ap (λ (t : List ℕ). t ++ drop lent before) (e ∙ above_zero (tape_plan s loaded) (take lent before) above)
          ∙ take-append-drop lent before ∙ sym (above_zero (over (tape_plan s loaded) before) before above)

  -- a list that has room for it keeps its length
  over_sized : (before : List ℕ) → length before ≡ most_junctions → length (by_number (whole_refusal s loaded) (over (tape_plan s loaded) before) before) ≡ length before
  over_sized before size = go (whole_refusal s loaded) refl
    where
      go : (n : ℕ) → whole_refusal s loaded ≡ n → length (by_number (whole_refusal s loaded) (over (tape_plan s loaded) before) before) ≡ length before
      go zero z =
          let own = (whole_passed s loaded z).0 in
          ap length (at_zero (over (tape_plan s loaded) before) before z)
          ∙ over_length (tape_plan s loaded) before (omega (arith, accepted_junctions s loaded own, accepted_records s own))
      go (suc n) z = let above : 0 < whole_refusal s loaded = omega arith in ap length (above_zero (over (tape_plan s loaded) before) before above)

  -- with n numbers of it lent
  module _ (before : List ℕ) {n : ℕ} (count : n ≡ lent) (size : length before ≡ most_junctions) where
    pub lent_length : length (take n before) ≡ n
    lent_length = length-take-le n before (omega arith)

    pub whole_planned : {answer : Result ⊤ RefusedAt} {work work' : List Measured} {planned : List ℕ} → length work' ≡ sheet_size → SurveyedTape s loaded work work' (take n before) planned answer
        → WholeTape s loaded work work' before (planned ++ drop n before) answer
    whole_planned {work'} {planned} room r =
        let same : plan_fault s loaded (length (take n before)) ≡ whole_fault s loaded = ap (plan_fault s loaded) (lent_length ∙ count) ∙ fault_same in
        let list = ap (λ (j : ℕ). planned ++ drop j before) count
        ∙ plan_over before (r.planned.list ∙ (λ i. by_number (same i).number (tape_plan s loaded) (take (count i) before))) in
        record {
          fault = r.planned.fault ∙ same;
          sized = ap length list ∙ over_sized before size;
          list = list;
          room = room;
          rows = λ z k h. (r.measured z).rows k h (omega (arith, accepted_records s (whole_passed s loaded z).0));
          later = λ z. (r.measured z).later;
        }

-- the plan is at the beginning of such a list
pub plan_front : (s loaded before : List ℕ) {after : List ℕ} → whole_refusal s loaded ≡ 0 → after ≡ by_number (whole_refusal s loaded) (over (tape_plan s loaded) before) before
    → (k : ℕ) → k ≤ records_in s → number_at after k ≡ number_at (tape_plan s loaded) k
plan_front s loaded before passed e k h =
    ap (λ (t : List ℕ). number_at t k) (e ∙ at_zero (over (tape_plan s loaded) before) before passed)
    ∙ get_or-append (tape_plan s loaded) (drop (length (tape_plan s loaded)) before) 0 k (omega (arith, accepted_junctions s loaded (whole_passed s loaded passed).0))

-- A tape that is planned so has passed its checks, its plan is at the beginning, and it has no more records than any tape.
module _ {s loaded : List ℕ} {work work' : List Measured} {before after : List ℕ} {r : Result ⊤ RefusedAt} (w : WholeTape s loaded work work' before after r) (is : r ≡ Ok tt) where
  pub planned_passed : whole_refusal s loaded ≡ 0
  planned_passed = ap (λ (f : Fault). f.number) (sym w.fault ∙ ap planned_means is)

  pub planned_speeds : (k : ℕ) → k ≤ records_in s → number_at after k ≡ number_at (tape_plan s loaded) k
  planned_speeds = plan_front s loaded before planned_passed w.list

  pub planned_few : records_in s ≤ most_blocks
  planned_few = accepted_records s (whole_passed s loaded planned_passed).0
