-- A host's events in bytes, 68 each: the kind, one word of 32 bits, then eight doubles by their bits, most significant byte first: target X, Y, Z,
-- offset X, Y, Z, speed, radius.
use Rattle.std.specs.Prelude.{ℕ, zero, suc, ◌+◌, ◌*◌, List, Float, take, drop}
use Rattle.std.specs.Float.{binary64}
use Rattle.std.specs.Float.Ieee.{of_bits}
use Rattle.fields.specs.Bytes.{number_of}
use Rattle.fields.specs.Fields.{field_of}
use Rattle.fields.specs.Records.{record_in, whole_records}
use Rattle.tape.specs.Tape.{limits_bytes}
use Rattle.line.specs.declared.Call.TheVariants.{Take}
use Rattle.host.specs.declared.orders.Point.{Point}
use Rattle.host.specs.declared.orders.Order.{Order}
use Rattle.host.specs.declared.orders.Order.TheVariants.{Rapid, Feed, CurveChord}
use Rattle.host.specs.declared.orders.Event as host
use Rattle.host.specs.declared.orders.Event.TheVariants as event

-- doubles of an event, bytes of its kind, and bytes of all
abbrev pub event_doubles : ℕ
event_doubles = 8

abbrev pub kind_bytes : ℕ
kind_bytes = 4

abbrev pub event_bytes : ℕ
event_bytes = kind_bytes + 8 * event_doubles

abbrev pub kind_in : List ℕ → ℕ
kind_in bytes = field_of bytes 0 (8 * kind_bytes)

-- double i of an event's bytes
abbrev pub double_in : List ℕ → ℕ → Float
double_in bytes i = of_bits binary64 (number_of (take 8 (drop (kind_bytes + 8 * i) bytes)))

-- the point of three doubles, from double i on
unfoldable pub point_in : List ℕ → ℕ → Point
point_in bytes i = record { x = double_in bytes i; y = double_in bytes (i + 1); z = double_in bytes (i + 2) }

-- the order of a kind: 1 is a rapid, 2 a feed, any other a curve chord; what it does not use plays no part
abbrev pub order_by : (kind : ℕ) → Point → (speed radius : Float) → Order
order_by zero target speed radius = CurveChord target speed radius
order_by (suc zero) target speed radius = Rapid target
order_by (suc (suc zero)) target speed radius = Feed target speed
order_by (suc (suc (suc kind))) target speed radius = CurveChord target speed radius

unfoldable pub order_of : (kind : ℕ) → List ℕ → Order
order_of kind bytes = order_by kind (point_in bytes 0) (double_in bytes 6) (double_in bytes 7)

-- an event: kind 0 is a take, any other number an order with its offset
abbrev pub event_by : (kind : ℕ) → Order → (offset : Point) → host.Event
event_by zero o offset = event.Call Take
event_by (suc kind) o offset = event.Order o offset

unfoldable pub event_of : List ℕ → host.Event
event_of bytes = event_by (kind_in bytes) (order_of (kind_in bytes) bytes) (point_in bytes 3)

-- event k of bytes with no limits before them, k counted from 0
abbrev pub event_in : List ℕ → ℕ → host.Event
event_in bytes k = event_of (record_in event_bytes bytes k)

-- the whole events of orders, behind the limits
abbrev pub orders_events : List ℕ → List host.Event
orders_events s = whole_records event_bytes event_of (drop limits_bytes s)
