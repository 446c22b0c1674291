-- Rows stored in a sheet. From the laws of lists.
use mathlib.Core.Path.{◌≡◌, refl, ◌∙◌}
use mathlib.Core.List.{List}
use Prim.Native.Nat.{ℕ, ◌+◌, ◌≤◌, ◌<◌}
use native.Mathlib.Decide.{dec_lt}
use native.Mathlib.Omega.{arith}
use lib.ListN.{set, length-set}
use lib.Seq.{get_or-set_same, get_or-set_other}
use Rattle.machine.specs.declared.Machine.{Machine}
use Rattle.tapeplan.specs.Sheet.{no_row, rows_in, measured_at, measured_of, Measures, Keeps}
use Rattle.tapeplan.specs.declared.Measured.{Measured}

-- A row that the sheet has, stored.
pub row_kept : (sheet : List Measured) (k : ℕ) (r : Measured) → k < rows_in sheet → Keeps sheet k r (set sheet k r)
row_kept sheet k r h =
    record {
      sized = length-set sheet k r;
      kept = λ z. get_or-set_same sheet k r no_row h;
      others = λ i l. get_or-set_other sheet k i r no_row (omega arith);
      later = λ i l. get_or-set_other sheet k i r no_row (omega arith);
    }

-- One block more is in the sheet.
pub measures_next : (m : Machine) (s : List ℕ) {before sheet after : List Measured} (k : ℕ) {r : Measured} → Measures m s before sheet k → Keeps sheet k r after
    → r ≡ measured_of m s k → Measures m s before after (k + 1)
measures_next m s {before} {sheet} {after} k {r} v keeps e =
    record { rows = λ i h l. go i h (rw (← keeps.sized) l) (dec_lt i k); later = λ i h. keeps.later i h ∙ v.later i (omega arith) }
  where
    go : (i : ℕ) → i < k + 1 → i < rows_in sheet → Dec (i < k) → measured_at after i ≡ measured_of m s i
    go i h room (yes g) = keeps.others i g ∙ v.rows i g room
    go i h room (no g) = let here : i ≡ k = omega arith in rw here (keeps.kept (rw here at room) ∙ e)
