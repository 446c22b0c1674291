-- The figures of a tape: its blocks, their total length, µm, the greatest peak, (µm/s)², and its inner junctions by what held them.
use Rattle.std.specs.Prelude.{ℕ, suc, ◌-◌, List, [], ◌∷◌}
use Rattle.display.specs.Display.{Fault, Outcome, by_number, given, refused}
use Rattle.profile.specs.Line.{number_at}
use Rattle.machine.specs.Numbers.{length_of, numbers_of, ramp_of}
use Rattle.tape.specs.Tape.{record_at, records_in}
use Rattle.tapeplan.specs.Planned.{tape_machine, tape_plan, whole_fault}
use Rattle.report.specs.Counts.{sum_to, greatest_to}
use Rattle.report.specs.Held.{by_feed, by_corner, by_chord, by_reach, held_of}
use Rattle.report.specs.declared.Figures.{Figures}

-- length and peak of block k of a tape; the peak is that of its ramp between the plan's numbers at its two ends
abbrev pub length_at : (s : List ℕ) (k : ℕ) → ℕ
length_at s k = length_of (record_at s k)

abbrev pub peak_at : (s loaded : List ℕ) (k : ℕ) → ℕ
peak_at s loaded k = (ramp_of (numbers_of (tape_machine s loaded) (record_at s k)) (number_at (tape_plan s loaded) k) (number_at (tape_plan s loaded) (suc k))).peak

-- the figures of a tape, each by a definition of its own
abbrev pub figures_of : (s loaded : List ℕ) → Figures
figures_of s loaded =
    let inner = records_in s - 1 in
    record {
      blocks = records_in s;
      length = sum_to (length_at s) (records_in s);
      peak = greatest_to (peak_at s loaded) (records_in s);
      feed = held_of by_feed s loaded inner;
      corner = held_of by_corner s loaded inner;
      chord = held_of by_chord s loaded inner;
      reach = held_of by_reach s loaded inner;
    }

-- what a tape with loaded torque steps is answered: its figures, or the number and the place of its refusal
abbrev pub figured_by : Fault → Figures → Outcome Fault Figures
figured_by fault f = by_number fault.number (given f) (refused fault)

unfoldable pub tape_figures : (s loaded : List ℕ) → Outcome Fault Figures
tape_figures s loaded = figured_by (whole_fault s loaded) (figures_of s loaded)

-- the figures as seven numbers
abbrev pub figure_count : ℕ
figure_count = 7

abbrev pub figure_numbers : Figures → List ℕ
figure_numbers f = f.blocks ∷ f.length ∷ f.peak ∷ f.feed ∷ f.corner ∷ f.chord ∷ f.reach ∷ []

-- without a block
abbrev pub no_figures : Figures
no_figures = record { blocks = 0; length = 0; peak = 0; feed = 0; corner = 0; chord = 0; reach = 0 }
