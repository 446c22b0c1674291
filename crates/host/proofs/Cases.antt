-- Worked orders: what is refused of their fields, and their blocks. The definitions compute.
use mathlib.Core.Path.{◌≡◌, refl}
use mathlib.Core.Bool.{false}
use Prim.Native.Nat.{ℕ}
use lib.IntN.{pos, negsuc}
use lib.Ieee.{Float, nan, inf, binary64, of_bits, of_int, sub}
use Rattle.doubles.specs.Readings.{reading_of}
use Rattle.machine.specs.Labels.{plain_block}
use Rattle.host.specs.Fields.{order_fault, readings_of, field_fault}
use Rattle.host.specs.State.{fresh_host, host_behind, order_block, position_of}
use Rattle.host.specs.declared.orders.Point.{Point}
use Rattle.host.specs.declared.orders.Order.{Order}
use Rattle.host.specs.declared.orders.Order.TheVariants.{Rapid, Feed, CurveChord}

abbrev bits : ℕ → Float
bits n = of_bits binary64 n

abbrev point : (x y z : Float) → Point
point x y z = record { x = x; y = y; z = z }

-- 0, 0.1, 0.2, 0.3, 1, 2,000,000, 20 and -0.0005
abbrev zero : Float
zero = bits 0

abbrev tenth : Float
tenth = bits 0x3fb9_9999_9999_999a

abbrev fifth : Float
fifth = bits 0x3fc9_9999_9999_999a

abbrev three_tenths : Float
three_tenths = bits 0x3fd3_3333_3333_3333

abbrev one : Float
one = bits 0x3ff0_0000_0000_0000

abbrev far_out : Float
far_out = bits 0x413e_8480_0000_0000

abbrev twenty : Float
twenty = bits 0x4034_0000_0000_0000

abbrev below : Float
below = bits 0xbf40_624d_d2f1_a9fc

abbrev origin : Point
origin = point zero zero zero

-- the rapid to (0.1, 0.2, 0.3) with offset (0.3, 0.1, 0.3)
abbrev offset : Point
offset = point three_tenths tenth three_tenths

abbrev rapid : Order
rapid = Rapid (point tenth fifth three_tenths)

-- each axis has its own offset; a rapid's feed is 1,000,000, and the first mark is 1
offset_block : order_block fresh_host rapid offset ≡ plain_block (negsuc 199) (pos 100) (pos 0) 1_000_000 0 1
unfolding readings_of reading_of sub of_bits
offset_block = refl

-- behind it, from (-200, 100, 0): a curve chord to (1, 1, 0) at 20 mm/s with radius 1 mm has mark 2
second_block : order_block (host_behind fresh_host (readings_of rapid offset)) (CurveChord (point one one zero) twenty one) origin
    ≡ plain_block (pos 1200) (pos 900) (pos 0) 20_000 1_000 2
unfolding readings_of reading_of sub of_bits
second_block = refl

-- a feed has radius 0
feed_block : order_block fresh_host (Feed (point one zero zero) twenty) origin ≡ plain_block (pos 1000) (pos 0) (pos 0) 20_000 0 1
unfolding readings_of reading_of sub of_bits
feed_block = refl

-- a NaN before an infinity, and X's 16 before Y's 15
not_finite : order_fault (Rapid (point nan (inf false) zero)) origin ≡ 15
unfolding readings_of field_fault reading_of sub of_bits
not_finite = refl

far_first : order_fault (Rapid (point far_out nan zero)) origin ≡ 16
unfolding readings_of field_fault reading_of sub of_bits
far_first = refl

-- speed before radius: 16 and then 15, 15 and then 16
speed_first : order_fault (CurveChord (point one zero zero) below nan) origin ≡ 16
unfolding readings_of field_fault reading_of sub of_bits
speed_first = refl

radius_second : order_fault (CurveChord (point one zero zero) nan below) origin ≡ 15
unfolding readings_of field_fault reading_of sub of_bits
radius_second = refl

radius_below : order_fault (CurveChord (point one zero zero) twenty below) origin ≡ 16
unfolding readings_of field_fault reading_of sub of_bits
radius_below = refl

-- Z before speed
z_first : order_fault (Feed (point one zero nan) below) origin ≡ 15
unfolding readings_of field_fault reading_of sub of_bits
z_first = refl

-- the point back, axis by axis
point_back : position_of (host_behind fresh_host (readings_of (Rapid (point tenth fifth one)) (point three_tenths tenth three_tenths))) ≡ point (of_int binary64 (negsuc 199)) (of_int binary64 (pos 100)) (of_int binary64 (pos 700))
unfolding readings_of reading_of sub of_bits
point_back = refl
