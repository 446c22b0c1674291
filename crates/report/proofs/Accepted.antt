-- The figures of an accepted tape, and what held its junctions, from its sheet and its plan. From the laws of rows, of counts, of causes and of an
-- accepted tape.
use Rattle.std.proofs.Common.{◌≡◌, ℕ, suc, ◌-◌, ◌^◌, ◌<◌, ◌≤◌, Bool, true, eqb, List, length, ap, ◌∙◌, zero-le, arith}
use native.Mathlib.Decide.{dec_lt}
use borrow.Author.Tests.{eqb-false, not-true}
use Rattle.profile.specs.Line.{cap_at, number_at}
use Rattle.profile.proofs.Highest.{plan_lawful}
use Rattle.machine.specs.Caps.{JunctionCaps, least_cap}
use Rattle.machine.specs.Numbers.{numbers_of, peak_of, ramp_of}
use Rattle.machine.specs.declared.Machine.{Machine}
use Rattle.machine.proofs.Bounds.{limits_in, short}
use Rattle.machine.proofs.CapCauses.{caps_least}
use Rattle.machine.proofs.Spans.{spans_length}
use Rattle.tape.specs.Answers.{tape_refusal}
use Rattle.tape.specs.Tape.{record_at, records_in, tape_blocks, tape_limits}
use Rattle.tape.proofs.Checks.{head_passed, limits_faultless}
use Rattle.tape.proofs.Faults.{length_blocks, tape_passed}
use Rattle.tapeplan.specs.Planned.{WholeTape, most_junctions, tape_machine, tape_plan, tape_spans, whole_refusal}
use Rattle.tapeplan.specs.Sheet.{measured_at, measured_of, sheet_size}
use Rattle.tapeplan.specs.declared.Measured.{Measured}
use Rattle.std.specs.Prelude.{⊤, Result, Ok}
use Rattle.display.specs.declared.RefusedAt.{RefusedAt}
use Rattle.tapeplan.proofs.Answered.{whole_passed}
use Rattle.tapeplan.proofs.Plans.{accepted_ramps, accepted_records}
use Rattle.tapeplan.proofs.Surveys.{cap_next}
use Rattle.tapeplan.proofs.Wholes.{planned_passed, planned_speeds}
use Rattle.report.specs.Counts.{list_from}
use Rattle.report.specs.Figures.{figures_of, length_at, peak_at}
use Rattle.report.specs.Rows.{Countable, held_from, row_figures, row_held, row_length, row_peak, rows_held}
use Rattle.report.specs.Held.{by_chord, by_corner, by_feed, by_reach, caps_at, held_by, held_list, held_of, speed_at}
use Rattle.report.proofs.Causes.{held_is, held_rows}
use Rattle.report.proofs.Counts.{count_same, greatest_same, list_same, sum_same}

-- the tick of an accepted tape's limits is not 0
tape_ticks : (s : List ℕ) → tape_refusal s ≡ 0 → 0 < (tape_limits s).tick
tape_ticks s own =
    let limits = (limits_faultless s (head_passed s (tape_passed s own).0).limits).1 in
    omega (arith, (limits_in (tape_limits s) limits).tick_in.0)

-- The least of the three caps of an inner junction is the plan's cap there.
pub caps_are : (s loaded : List ℕ) (i : ℕ) → whole_refusal s loaded ≡ 0 → suc i < records_in s → least_cap (caps_at s i) ≡ cap_at (tape_spans s loaded) (suc i)
caps_are s loaded i passed h =
    caps_least (tape_limits s) (record_at s i) (record_at s (suc i)) (tape_ticks s (whole_passed s loaded passed).0) ∙ cap_next (tape_machine s loaded) s i h

-- So no speed is above it, and what the reach holds is below it.
module _ (s loaded : List ℕ) (i : ℕ) (passed : whole_refusal s loaded ≡ 0) (inner : suc i < records_in s) where
  pub speed_capped : speed_at s loaded i ≤ least_cap (caps_at s i)
  speed_capped =
      let spans : length (tape_spans s loaded) ≡ records_in s = spans_length (tape_machine s loaded) (tape_blocks s) ∙ length_blocks s in
      omega (arith, (plan_lawful 0 (tape_spans s loaded) zero-le).capped (suc i) (omega arith) (omega (arith, spans)), caps_are s loaded i passed inner)

  pub reach_below : by_reach (caps_at s i) (speed_at s loaded i) ≡ true → speed_at s loaded i < least_cap (caps_at s i)
  reach_below e = omega (arith, speed_capped, eqb-false (speed_at s loaded i) (least_cap (caps_at s i)) (not-true _ e))

module _ (s loaded : List ℕ) (sheet : List Measured) (plan : List ℕ) (passed : whole_refusal s loaded ≡ 0)
    (rows : (k : ℕ) → k < records_in s → measured_at sheet k ≡ measured_of (tape_machine s loaded) s k)
    (speeds : (k : ℕ) → k ≤ records_in s → number_at plan k ≡ number_at (tape_plan s loaded) k) where
  abbrev m : Machine
  m = tape_machine s loaded

  own : tape_refusal s ≡ 0
  own = (whole_passed s loaded passed).0

  -- what held a junction
  row_held_lem : (i : ℕ) → suc i < records_in s → row_held sheet plan i ≡ held_by (caps_at s i) (speed_at s loaded i)
  row_held_lem i h =
      (λ j. held_from (rows i (omega arith) j) (rows (suc i) h j) (speeds (suc i) (omega arith) j))
      ∙ held_rows m s i (tape_ticks s own) (speed_at s loaded i)

  -- how many are held by it
  row_count : (what : ℕ) (by : JunctionCaps → ℕ → Bool) → ((c : JunctionCaps) (p : ℕ) → eqb (held_by c p) what ≡ by c p)
      → rows_held sheet plan what (records_in s - 1) ≡ held_of by s loaded (records_in s - 1)
  row_count what by is =
      count_same (λ i. eqb (row_held sheet plan i) what) (λ i. by (caps_at s i) (speed_at s loaded i)) (records_in s - 1)
      (λ i h. ap (λ (n : ℕ). eqb n what) (row_held_lem i (omega arith)) ∙ is (caps_at s i) (speed_at s loaded i))

  figures_are : row_figures sheet plan (records_in s) ≡ figures_of s loaded
  unfolding row_figures numbers_of ramp_of
  figures_are =
      let n = records_in s in
      let lengths = sum_same (row_length sheet) (length_at s) n (λ k h. ap (λ (r : Measured). r.numbers.length) (rows k h)) in
      let peaks = greatest_same (row_peak sheet plan) (peak_at s loaded) n
      (λ k h i. peak_of (rows k h i).numbers.cap (rows k h i).numbers.reach (speeds k (omega arith) i) (speeds (suc k) (omega arith) i)) in
      λ i.
      record {
        blocks = n;
        length = lengths i;
        peak = peaks i;
        feed = row_count 0 by_feed (λ c p. (held_is c p).0) i;
        corner = row_count 1 by_corner (λ c p. (held_is c p).1) i;
        chord = row_count 2 by_chord (λ c p. (held_is c p).2) i;
        reach = row_count 3 by_reach (λ c p. (held_is c p).3) i;
      }

  list_are : list_from (row_held sheet plan) 0 (records_in s - 1) ≡ held_list s loaded
  list_are =
      list_same (row_held sheet plan) (λ i. held_by (caps_at s i) (speed_at s loaded i)) 0 (records_in s - 1) (λ i l h. row_held_lem i (omega arith))

  -- the numbers can be counted
  speed_below : (k : ℕ) → k ≤ records_in s → number_at plan k < 2 ^ 62
  speed_below k h = go (dec_lt k (records_in s))
    where
      go : Dec (k < records_in s) → number_at plan k < 2 ^ 62
      go (yes g) = let r = accepted_ramps s loaded own k g in omega (arith, speeds k h, r.entry_capped, r.cap_below)
      go (no g) =
          let last : length (tape_spans s loaded) ≡ k = omega (arith, spans_length m (tape_blocks s), length_blocks s) in
          omega (arith, speeds k h, (plan_lawful 0 (tape_spans s loaded) zero-le).ends, ap (number_at (tape_plan s loaded)) last)

  rows_countable : length sheet ≡ sheet_size → length plan ≡ most_junctions → Countable sheet plan (records_in s)
  unfolding numbers_of
  rows_countable size junctions =
      let few = accepted_records s own in
      record {
        few = few;
        rows = omega (arith, few);
        junctions = omega (arith, few);
        lengths = λ k h. omega (arith, ap (λ (r : Measured). r.numbers.length) (rows k h), short (record_at s k) ((tape_passed s own).1 k h));
        reaches = λ k h. omega (arith, ap (λ (r : Measured). r.numbers.reach) (rows k h), (accepted_ramps s loaded own k h).reach_below);
        speeds = speed_below;
      }

-- The same of a tape that is planned, from the promise of planning it.
module _ {s loaded : List ℕ} {work sheet : List Measured} {before after : List ℕ} {r : Result ⊤ RefusedAt} (w : WholeTape s loaded work sheet before after r) (is : r ≡ Ok tt) where
  abbrev passed : whole_refusal s loaded ≡ 0
  passed = planned_passed w is

  pub planned_figures : row_figures sheet after (records_in s) ≡ figures_of s loaded
  planned_figures = figures_are s loaded sheet after passed (w.rows passed) (planned_speeds w is)

  pub planned_held : list_from (row_held sheet after) 0 (records_in s - 1) ≡ held_list s loaded
  planned_held = list_are s loaded sheet after passed (w.rows passed) (planned_speeds w is)

  pub planned_countable : length before ≡ most_junctions → Countable sheet after (records_in s)
  planned_countable junctions =
      rows_countable s loaded sheet after passed (w.rows passed) (planned_speeds w is) w.room (w.sized ∙ junctions)
