-- The figures of a sheet, row by row, and the list of what held its junctions. From the laws of counts and of copies.
use Rattle.std.proofs.Common.{◌≡◌, ℕ, zero, suc, ◌+◌, ◌-◌, ◌^◌, ◌<◌, ◌≤◌, eqb, List, ◌++◌, length, get_or, set, sym, refl, ap, ◌∙◌, subst, append-nil, le_of_suc-le-suc, not-suc-le-zero, mul-le-mul_right, zero-add, add-one, arith, drop_of_length-le}
use Rattle.profile.specs.Line.{number_at}
use Rattle.tape.specs.Answers.{most_blocks}
use Rattle.tapeplan.specs.Sheet.{measured_at, over}
use Rattle.report.proofs.Copies.{Copying, copy_next}
use Rattle.report.specs.Counts.{count_to, greatest_to, list_from, one, sum_to}
use Rattle.report.specs.Figures.{no_figures}
use Rattle.report.specs.Rows.{Countable, block_figures, held_figures, held_from, row_figures, row_held, row_length, row_peak, rows_held}
use Rattle.report.specs.declared.Figures.{Figures}
use Rattle.report.proofs.Counts.{count_below, sum_below}
use Rattle.tapeplan.specs.declared.Measured.{Measured}

-- figures whose sums have room for more
pub record Room (f : Figures) : Type 0 where
  pub blocks : f.blocks < 2 ^ 62
  pub lengths : f.length < 2 ^ 62
  pub held : (f.feed < 2 ^ 62) × (f.corner < 2 ^ 62) × (f.chord < 2 ^ 62) × (f.reach < 2 ^ 62)

-- how long such a list is, and its numbers
pub list_length : (f : ℕ → ℕ) (k n : ℕ) → length (list_from f k n) ≡ n
unfolding list_from
list_length f k zero = refl
list_length f k (suc n) = ap suc (list_length f (suc k) n)

pub list_at : (f : ℕ → ℕ) (k n i : ℕ) → i < n → get_or (list_from f k n) i 0 ≡ f (k + i)
unfolding list_from
list_at f k zero i h = absurd (not-suc-le-zero h)
list_at f k (suc n) zero h = let none : k ≡ k + 0 = omega arith in ap f none
list_at f k (suc n) (suc i) h = let next : suc k + i ≡ k + suc i = omega arith in list_at f (suc k) n i (le_of_suc-le-suc h) ∙ ap f next

-- all of a list that another is copied over
pub over_all : (from to : List ℕ) → length to ≡ length from → over from to ≡ from
over_all from to e = let none : length to ≤ length from = omega arith in ap (λ (t : List ℕ). from ++ t) (drop_of_length-le to none) ∙ append-nil from

-- a number more is stored in a list that is to be such
pub list_next : (f : ℕ → ℕ) (before to : List ℕ) (i v : ℕ) → i < length before → v ≡ f i → Copying (list_from f 0 (length before)) before to i
    → Copying (list_from f 0 (length before)) before (set to i v) (i + 1)
list_next f before to i v h e c =
    let n = length before in
    subst (λ (x : ℕ). Copying (list_from f 0 n) before (set to i x) (i + 1)) (list_at f 0 n i h ∙ ap f (zero-add i) ∙ sym e)
    (copy_next (list_from f 0 n) before to i (omega (arith, list_length f 0 n)) c)

module _ (sheet : List Measured) (plan : List ℕ) where
  -- what held junction i, with the next row's number as the code has it
  pub held_between : (i : ℕ) → held_from (measured_at sheet i) (measured_at sheet (i + 1)) (number_at plan (i + 1)) ≡ row_held sheet plan i
  held_between i = ap (λ (j : ℕ). held_from (measured_at sheet i) (measured_at sheet j) (number_at plan j)) (add-one i)

  -- no row
  pub rows_none : no_figures ≡ row_figures sheet plan 0
  unfolding row_figures sum_to greatest_to count_to
  rows_none = refl

  -- the first
  pub rows_first : block_figures (row_figures sheet plan 0) (measured_at sheet 0).numbers (number_at plan 0) (number_at plan 1) ≡ row_figures sheet plan 1
  unfolding row_figures sum_to greatest_to count_to
  rows_first = refl

  -- a junction more,
  held_more : (what k : ℕ) → rows_held sheet plan what (suc k - 1) + one (eqb (row_held sheet plan k) what) ≡ rows_held sheet plan what (suc (suc k) - 1)
  unfolding count_to
  held_more what k =
      let back : suc k - 1 ≡ k = omega arith in
      let next : suc k ≡ suc (suc k) - 1 = omega arith in
      ap (λ (n : ℕ). rows_held sheet plan what n + one (eqb (row_held sheet plan k) what)) back ∙ ap (rows_held sheet plan what) next

  -- and a row more behind others, with the junction between
  pub rows_next : (k : ℕ)
      → held_figures (block_figures (row_figures sheet plan (suc k)) (measured_at sheet (suc k)).numbers (number_at plan (suc k)) (number_at plan (suc (suc k)))) (row_held sheet plan k)
      ≡ row_figures sheet plan (suc (suc k))
  unfolding row_figures sum_to greatest_to
  rows_next k =
      let more : suc k + 1 ≡ suc (suc k) = omega arith in
      λ i.
      record {
        blocks = more i;
        length = sum_to (row_length sheet) (suc (suc k));
        peak = greatest_to (row_peak sheet plan) (suc (suc k));
        feed = held_more 0 k i;
        corner = held_more 1 k i;
        chord = held_more 2 k i;
        reach = held_more 3 k i;
      }

  -- the same with the row's number as the code has it
  pub rows_begin : (k : ℕ) → k ≡ 0 → block_figures (row_figures sheet plan k) (measured_at sheet k).numbers (number_at plan k) (number_at plan (k + 1)) ≡ row_figures sheet plan (k + 1)
  rows_begin zero e = rows_first
  rows_begin (suc k) e = absurd (omega arith)

  pub rows_behind : (k : ℕ) → 0 < k
      → held_figures (block_figures (row_figures sheet plan k) (measured_at sheet k).numbers (number_at plan k) (number_at plan (k + 1)))
      (held_from (measured_at sheet (k - 1)) (measured_at sheet k) (number_at plan k))
      ≡ row_figures sheet plan (k + 1)
  rows_behind zero h = absurd (omega arith)
  rows_behind (suc k) h =
      let back : suc k - 1 ≡ k = omega arith in
      let next : suc k + 1 ≡ suc (suc k) = omega arith in
      rw (back, next) (rows_next k)

  -- the sums have room
  pub rows_room : (n k : ℕ) → Countable sheet plan n → k ≤ n → Room (row_figures sheet plan k)
  unfolding row_figures
  rows_room n k c h =
      let few = c.few in
      let total = sum_below (row_length sheet) (2 ^ 30) k (λ i l. omega (arith, c.lengths i (omega arith))) in
      let most = mul-le-mul_right {m = k} {n = most_blocks} (2 ^ 30) (omega arith) in
      record {
        blocks = omega arith;
        lengths = omega (arith, total, most);
        held = (held 0, held 1, held 2, held 3);
      }
    where
      held : (what : ℕ) → rows_held sheet plan what (k - 1) < 2 ^ 62
      held what = omega (arith, c.few, count_below (λ i. eqb (row_held sheet plan i) what) (k - 1))
