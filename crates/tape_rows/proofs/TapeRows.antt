-- The rows of a tape's list, one behind the other: as they are stored, and that those made from the sheet and the plan of an accepted tape are the
-- tape's. From the laws of lists, of an accepted tape and of its survey.
use mathlib.Core.Path.{◌≡◌, refl, sym, ap, ◌∙◌}
use mathlib.Core.List.{List, ◌++◌, append_assoc, append-nil}
use Prim.Native.Nat.{ℕ, zero, suc, ◌+◌, ◌-◌, ◌*◌, ◌≤◌, ◌<◌, min}
use native.Mathlib.Nat.{add-zero, zero-add}
use native.Mathlib.Numerals.{add-one}
use native.Mathlib.Omega.{arith}
use lib.ListN.{length, take}
use borrow.Rule.Slice.PartMut.{put_mid}
use Rattle.profile.specs.Line.{cap_at, number_at}
use Rattle.machine.specs.Numbers.{numbers_of}
use Rattle.machine.specs.declared.Machine.{Machine}
use Rattle.machine.proofs.Runs.{stored_behind}
use Rattle.machine.specs.declared.Ramp.{Ramp}
use Rattle.line.specs.Answers.{given_of, ramp_between}
use Rattle.tape.specs.Tape.{record_at, records_in}
use Rattle.tape.proofs.Faults.{tape_passed}
use Rattle.tapeplan.specs.Planned.{WholeTape, tape_machine, tape_plan, tape_spans, whole_refusal}
use Rattle.tapeplan.specs.Sheet.{measured_at, measured_of}
use Rattle.std.specs.Prelude.{⊤, Result, Ok}
use Rattle.display.specs.declared.RefusedAt.{RefusedAt}
use Rattle.tapeplan.proofs.Answered.{whole_passed}
use Rattle.tapeplan.proofs.Surveys.{cap_is_lem}
use Rattle.tapeplan.proofs.Wholes.{planned_passed, planned_speeds}
use Rattle.tape_rows.specs.Rows.{row_numbers, row_size, rows_from, sheet_row, shown_row, tape_rows}
use Rattle.tape_rows.proofs.Plans.{ramp_between_lem}
use Rattle.tapeplan.specs.declared.Measured.{Measured}

-- one row more behind others
rows_more : (row : ℕ → List ℕ) (k n : ℕ) → rows_from row k (suc n) ≡ rows_from row k n ++ row (k + n)
unfolding rows_from
rows_more row k zero = append-nil (row k) ∙ ap row (sym (add-zero k))
rows_more row k (suc n) =
    let next : suc k + n ≡ k + suc n = omega arith in
    ap (λ (t : List ℕ). row k ++ t) (rows_more row (suc k) n ∙ ap (λ (j : ℕ). rows_from row (suc k) n ++ row j) next)
    ∙ sym (append_assoc (row k) (rows_from row (suc k) n) (row (k + suc n)))

-- none is stored yet,
pub rows_none : (row : ℕ → List ℕ) (list : List ℕ) → take (row_size * 0) list ≡ rows_from row 0 0
unfolding rows_from
rows_none row list = refl

-- and one more is, behind those before it
pub rows_stored : (row : ℕ → List ℕ) (list stored : List ℕ) (k j : ℕ) → row_size * k ≤ length list → take (row_size * k) list ≡ rows_from row 0 k → stored ≡ row k → length stored ≡ row_size
    → take (row_size * (k + 1)) (put_mid (row_size * k) j list stored) ≡ rows_from row 0 (k + 1)
rows_stored row list stored k j h before is size =
    let long : row_size * k + length stored ≡ row_size * (k + 1) = omega (arith, size) in
    stored_behind list stored (row_size * k) j (row_size * (k + 1)) h long
    ∙ (λ i. before i ++ is i)
    ∙ ap (λ (i : ℕ). rows_from row 0 k ++ row i) (sym (zero-add k))
    ∙ sym (rows_more row 0 k)
    ∙ ap (rows_from row 0) (sym (add-one k))

-- rows that are the same
rows_same : (f g : ℕ → List ℕ) (k n : ℕ) → ((i : ℕ) → i < k + n → f i ≡ g i) → rows_from f k n ≡ rows_from g k n
unfolding rows_from
rows_same f g k zero e = refl
rows_same f g k (suc n) e = λ j. e k (omega arith) j ++ rows_same f g (suc k) n (λ i h. e i (omega arith)) j

-- Of an accepted tape
module _ (s loaded : List ℕ) (sheet : List Measured) (plan : List ℕ) (passed : whole_refusal s loaded ≡ 0)
    (rows : (k : ℕ) → k < records_in s → measured_at sheet k ≡ measured_of (tape_machine s loaded) s k)
    (speeds : (k : ℕ) → k ≤ records_in s → number_at plan k ≡ number_at (tape_plan s loaded) k) where
  abbrev m : Machine
  m = tape_machine s loaded

  -- the caps of a sheet with its corner are those of the junctions:
  junction_here : (k : ℕ) → k < records_in s
      → min (min (measured_at sheet (k - 1)).numbers.cap (measured_at sheet k).numbers.cap) (measured_at sheet k).corner ≡ cap_at (tape_spans s loaded) k
  unfolding numbers_of
  junction_here k h =
      (λ i. min (min (rows (k - 1) (omega arith) i).numbers.cap (rows k h i).numbers.cap) (rows k h i).corner)
      ∙ cap_is_lem m s k {before = record_at s (k - 1)} {known = numbers_of m (record_at s (k - 1))} h
      (λ p. record { block = refl; passes = (tape_passed s (whole_passed s loaded passed).0).1 (k - 1) (omega arith); numbers = refl })

  -- so each row is the tape's,
  row_is : (k : ℕ) → k < records_in s → sheet_row s sheet plan k ≡ row_numbers s loaded k
  unfolding given_of numbers_of
  row_is k h =
      let entry = number_at (tape_plan s loaded) k in
      let exit = number_at (tape_plan s loaded) (k + 1) in
      (λ i.
      shown_row (record_at s k) (rows k h i) (speeds k (omega arith) i) (speeds (k + 1) (omega arith) i)
      (ramp_between (rows k h i).numbers (speeds k (omega arith) i) (speeds (k + 1) (omega arith) i))
      (junction_here k h i))
      ∙ ap (λ (r : Ramp). shown_row (record_at s k) (measured_of m s k) entry exit r (cap_at (tape_spans s loaded) k)) (ramp_between_lem s loaded (whole_passed s loaded passed).0 k h)

  pub rows_are : rows_from (sheet_row s sheet plan) 0 (records_in s) ≡ tape_rows s loaded
  rows_are = rows_same (sheet_row s sheet plan) (row_numbers s loaded) 0 (records_in s) (λ k h. row_is k (omega arith))

-- The same of a tape that is planned, from the promise of planning it.
module _ {s loaded : List ℕ} {work sheet : List Measured} {before after : List ℕ} {r : Result ⊤ RefusedAt} (w : WholeTape s loaded work sheet before after r) (is : r ≡ Ok tt) where
  pub planned_rows : rows_from (sheet_row s sheet after) 0 (records_in s) ≡ tape_rows s loaded
  planned_rows = rows_are s loaded sheet after (planned_passed w is) (w.rows (planned_passed w is)) (planned_speeds w is)
