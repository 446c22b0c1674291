-- Document 02, Q-1: what a line's words do, and the block between two positions.
use Rattle.std.specs.Prelude.{Bool, false, cond, ℕ, ◌+◌, ◌*◌, ◌/◌, get_or, ℤ, pos, nat_abs, ◌+ℤ◌, ◌-ℤ◌, ◌*ℤ◌}
use Rattle.std.specs.Int.Signed.{lt_z}
use Rattle.arith.specs.Signed.{or_zero, signed_by}
use Rattle.machine.specs.Labels.{plain_block}
use Rattle.machine.specs.declared.Block.{Block}
use Rattle.words.specs.Number.{parts}
use Rattle.words.specs.Words.{motion_slot, unit_slot, way_slot, x_slot, y_slot, z_slot, feed_slot, is_value, Words}
use Rattle.rs274.specs.declared.Modal.{Modal}

-- a text begins in G21, G90, G1 at zero with no feed
abbrev pub begin : Modal
begin = record { inches = false; incremental = false; rapid = false; x = pos 0; y = pos 0; z = pos 0; feed = 0 }

-- whether a word stands in a slot, and its number, ten-thousandths
abbrev pub stands_in : Words → (slot : ℕ) → Bool
stands_in w k = get_or w.stands k false

abbrev pub value_in : Words → (slot : ℕ) → ℤ
value_in w k = get_or w.values k (pos 0)

-- whether the G word of a slot has this number, ten-thousandths; where none stands there, what was before
abbrev pub chosen_by : Words → (slot v : ℕ) → (before : Bool) → Bool
chosen_by w k v before = cond (stands_in w k) (is_value v (value_in w k)) before

-- µm in an inch or in a millimetre
abbrev pub unit_of : (inches : Bool) → ℕ
unit_of inches = cond inches 25_400 1_000

-- hundredths of a µm in a µm
abbrev pub hundredths : ℕ
hundredths = 100

-- a position rounded to the nearest µm, with the half away from zero
unfoldable pub rounded_of : ℤ → ℤ
rounded_of z = signed_by (lt_z z (pos 0)) ((nat_abs z + hundredths / 2) / hundredths)

-- a number of a position, ten-thousandths of its unit, in hundredths of a µm: an inch has 254 of them for each ten-thousandth, a millimetre 10
unfoldable pub length_in : (inches : Bool) → ℤ → ℤ
length_in inches v = v *ℤ pos (unit_of inches * hundredths / parts)

-- a position on an axis behind a line, hundredths of a µm: by G91 from where it was, by G90 from zero
unfoldable pub position_of : (inches incremental : Bool) (before : ℤ) (stands : Bool) (v : ℤ) → ℤ
position_of inches incremental before stands v = cond stands (cond incremental before (pos 0) +ℤ length_in inches v) before

-- a number of a feed, ten-thousandths of its unit per minute, in µm/s, rounded down; 0 for one below 0
unfoldable pub feed_of : (inches : Bool) → ℤ → ℕ
feed_of inches v = or_zero v * unit_of inches / (60 * parts)

-- the feed behind a line, µm/s
abbrev pub feed_by : Words → (inches : Bool) (before : ℕ) → ℕ
feed_by w inches before = cond (stands_in w feed_slot) (feed_of inches (value_in w feed_slot)) before

-- what is in force behind a line: its G words act before its other words
module _ (m : Modal) (w : Words) where
  abbrev pub inches_after : Bool
  inches_after = chosen_by w unit_slot (20 * parts) m.inches

  abbrev pub incremental_after : Bool
  incremental_after = chosen_by w way_slot (91 * parts) m.incremental

  abbrev pub position_after : (slot : ℕ) → (before : ℤ) → ℤ
  position_after k before = position_of inches_after incremental_after before (stands_in w k) (value_in w k)

  unfoldable pub modal_after : Modal
  modal_after =
      record {
        inches = inches_after;
        incremental = incremental_after;
        rapid = chosen_by w motion_slot (0 * parts) m.rapid;
        x = position_after x_slot m.x;
        y = position_after y_slot m.y;
        z = position_after z_slot m.z;
        feed = feed_by w inches_after m.feed;
      }

-- the move on an axis between two positions, µm
abbrev pub move_of : (before after : ℤ) → ℤ
move_of before after = rounded_of after -ℤ rounded_of before

-- the feed of G0, µm/s
abbrev pub rapid_feed : ℕ
rapid_feed = 1_000_000

-- the feed of a block, µm/s: that of G0, or the one that F has set
abbrev pub feed_in_force : Modal → ℕ
feed_in_force m = cond m.rapid rapid_feed m.feed

-- the block from one position to the next, with the feed in force there
unfoldable pub block_between : (before after : Modal) (mark : ℕ) → Block
block_between before after mark =
    plain_block (move_of before.x after.x) (move_of before.y after.y) (move_of before.z after.z) (feed_in_force after) 0 mark
