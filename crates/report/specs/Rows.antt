-- The figures of a tape and what held its junctions, as they are counted from the rows of its sheet and the numbers of its plan. The laws `held_rows`,
-- `planned_figures` and `planned_held` say that they are those of `Held` and `Figures`.
use Rattle.std.specs.Prelude.{ℕ, suc, ◌+◌, ◌-◌, ◌^◌, ◌<◌, ◌≤◌, min, max, cond, List, length, ◌==◌, nat_eq}
use Rattle.profile.specs.Line.{number_at}
use Rattle.machine.specs.Numbers.{peak_of}
use Rattle.machine.specs.declared.Numbers.{Numbers}
use Rattle.tape.specs.Answers.{most_blocks}
use Rattle.tapeplan.specs.Sheet.{measured_at, rows_in}
use Rattle.tapeplan.specs.declared.Measured.{Measured}
use Rattle.report.specs.Counts.{count_to, sum_to, greatest_to, one}
use Rattle.report.specs.declared.Figures.{Figures}
use Rattle.report.specs.declared.held.HeldBy.{HeldBy}
use Rattle.report.specs.declared.held.HeldBy.TheVariants as by

-- the number of what holds a junction
abbrev pub held_number : HeldBy → ℕ
held_number by.Feed = 0
held_number by.Corner = 1
held_number by.Chord = 2
held_number by.Reach = 3

-- what holds the junction between two blocks: the corner is a number beside their caps, and what is at its cap and held neither by feed nor by
-- corner is held by the chord rule
unfoldable pub held_from : (a b : Measured) (speed : ℕ) → ℕ
held_from a b speed =
    cond (speed == min (min a.numbers.cap b.numbers.cap) b.corner)
    (cond (min a.square b.square == speed) 0 (cond (b.corner == speed) 1 2))
    3

-- figures with one block more between two squared speeds, and with one inner junction more by what held it
abbrev pub block_figures : Figures → Numbers → (entry exit : ℕ) → Figures
block_figures f n entry exit =
    record {
      blocks = f.blocks + 1;
      length = f.length + n.length;
      peak = max f.peak (peak_of n.cap n.reach entry exit);
      feed = f.feed;
      corner = f.corner;
      chord = f.chord;
      reach = f.reach;
    }

abbrev pub held_figures : Figures → (held : ℕ) → Figures
held_figures f held =
    record {
      blocks = f.blocks;
      length = f.length;
      peak = f.peak;
      feed = f.feed + one (held == 0);
      corner = f.corner + one (held == 1);
      chord = f.chord + one (held == 2);
      reach = f.reach + one (held == 3);
    }

-- length and peak of row k, and what holds the junction behind row i, by a list of speeds
abbrev pub row_length : (sheet : List Measured) (k : ℕ) → ℕ
row_length sheet k = (measured_at sheet k).numbers.length

abbrev pub row_peak : (sheet : List Measured) (plan : List ℕ) (k : ℕ) → ℕ
row_peak sheet plan k = peak_of (measured_at sheet k).numbers.cap (measured_at sheet k).numbers.reach (number_at plan k) (number_at plan (suc k))

abbrev pub row_held : (sheet : List Measured) (plan : List ℕ) (i : ℕ) → ℕ
row_held sheet plan i = held_from (measured_at sheet i) (measured_at sheet (suc i)) (number_at plan (suc i))

abbrev pub rows_held : (sheet : List Measured) (plan : List ℕ) (what count : ℕ) → ℕ
rows_held sheet plan what count = count_to (λ i. nat_eq (row_held sheet plan i) what) count

unfoldable pub row_figures : (sheet : List Measured) (plan : List ℕ) (k : ℕ) → Figures
row_figures sheet plan k =
    record {
      blocks = k;
      length = sum_to (row_length sheet) k;
      peak = greatest_to (row_peak sheet plan) k;
      feed = rows_held sheet plan 0 (k - 1);
      corner = rows_held sheet plan 1 (k - 1);
      chord = rows_held sheet plan 2 (k - 1);
      reach = rows_held sheet plan 3 (k - 1);
    }

-- a sheet and a list of speeds that have n rows, whose numbers can be added in 64 bits
pub record Countable (sheet : List Measured) (plan : List ℕ) (n : ℕ) : Type 0 where
  pub few : n ≤ most_blocks
  pub rows : n ≤ rows_in sheet
  pub junctions : n < length plan
  pub lengths : (k : ℕ) → k < n → row_length sheet k < 2 ^ 30
  pub reaches : (k : ℕ) → k < n → (measured_at sheet k).numbers.reach < 2 ^ 62
  pub speeds : (k : ℕ) → k ≤ n → number_at plan k < 2 ^ 62
