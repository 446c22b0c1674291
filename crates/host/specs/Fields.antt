-- Document 02, Q-5: what an order's doubles are read as, field by field, and which of them are refused.
use Rattle.std.specs.Prelude.{ℕ, ◌≤◌, Float, ℤ, pos, negsuc, nat_abs, Result, Ok, Err}
use Rattle.std.specs.Float.{binary64}
use Rattle.std.specs.Float.Ieee.{sub}
use Rattle.display.specs.Display.{refusal_number, ◌then◌}
use Rattle.doubles.specs.Readings.{most_read, reading_of}
use Rattle.display.specs.declared.Refusal.{Refusal}
use Rattle.host.specs.declared.orders.Point.{Point}
use Rattle.host.specs.declared.orders.Order.{Order}
use Rattle.host.specs.declared.orders.Order.TheVariants.{Rapid, Feed, CurveChord}
use Rattle.host.specs.declared.orders.Readings.{Readings}

-- the point that an order goes to, mm
abbrev pub target_of : Order → Point
target_of (Rapid p) = p
target_of (Feed p speed) = p
target_of (CurveChord p speed radius) = p

-- a coordinate: the offset is subtracted in one double operation; the difference times 1,000 is rounded, µm
abbrev pub coordinate_reading : (at offset : Float) → Result ℤ Refusal
coordinate_reading at offset = reading_of (sub binary64 at offset)

-- the speed of a rapid, µm/s
abbrev pub rapid_speed : ℕ
rapid_speed = 1_000_000

-- speed, µm/s, and radius, µm, go the same way without offset; a rapid has its own speed, and only a curve chord has a radius
abbrev pub speed_reading : Order → Result ℤ Refusal
speed_reading (Rapid p) = Ok (pos rapid_speed)
speed_reading (Feed p speed) = reading_of speed
speed_reading (CurveChord p speed radius) = reading_of speed

abbrev pub radius_reading : Order → Result ℤ Refusal
radius_reading (Rapid p) = Ok (pos 0)
radius_reading (Feed p speed) = Ok (pos 0)
radius_reading (CurveChord p speed radius) = reading_of radius

-- all fields of an order
unfoldable pub readings_of : Order → (offset : Point) → Readings
readings_of o offset =
    record {
      x = coordinate_reading (target_of o).x offset.x;
      y = coordinate_reading (target_of o).y offset.y;
      z = coordinate_reading (target_of o).z offset.z;
      speed = speed_reading o;
      radius = radius_reading o;
    }

-- what is refused of a coordinate: 15 where it is not finite (a difference of two doubles is finite only where both are: the law
-- `difference_finite`), 16 where it is beyond 1,000,000,000 either way
abbrev pub coordinate_fault : Result ℤ Refusal → ℕ
coordinate_fault (Ok z) = 0
coordinate_fault (Err why) = refusal_number why

-- and of a speed or a radius: 16 below 0 as well
abbrev pub amount_fault : Result ℤ Refusal → ℕ
amount_fault (Ok (pos n)) = 0
amount_fault (Ok (negsuc n)) = 16
amount_fault (Err why) = refusal_number why

-- field by field, in the order X, Y, Z, speed, radius
unfoldable pub field_fault : Readings → ℕ
field_fault r = coordinate_fault r.x then coordinate_fault r.y then coordinate_fault r.z then amount_fault r.speed then amount_fault r.radius

-- what is refused of an order's fields, 0 for nothing
abbrev pub order_fault : Order → (offset : Point) → ℕ
order_fault o offset = field_fault (readings_of o offset)

-- the whole number that was read; 0 where none was, which is refused
abbrev pub value_of : Result ℤ Refusal → ℤ
value_of (Ok z) = z
value_of (Err why) = pos 0

-- each coordinate is within 1,000,000,000 either way, as all are that were read
pub record Within (r : Readings) : Type 0 where
  pub x : nat_abs (value_of r.x) ≤ most_read
  pub y : nat_abs (value_of r.y) ≤ most_read
  pub z : nat_abs (value_of r.z) ≤ most_read
