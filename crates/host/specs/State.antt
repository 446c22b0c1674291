-- A host: the last accepted order's rounded point and how many orders were accepted; the four numbers that keep it; and the block of an order.
use Rattle.std.specs.Prelude.{List, ◌∷◌, [], ℕ, ◌+◌, ◌%◌, ◌^◌, ℤ, pos, ◌-ℤ◌, get_or}
use Rattle.std.specs.Float.{binary64}
use Rattle.std.specs.Float.Ieee.{of_int}
use Rattle.arith.specs.Signed.{or_zero}
use Rattle.fields.specs.Signed.{signed_of, bits_of}
use Rattle.machine.specs.Labels.{plain_block}
use Rattle.machine.specs.declared.Block.{Block}
use Rattle.host.specs.Fields.{value_of, readings_of}
use Rattle.host.specs.declared.orders.Point.{Point}
use Rattle.host.specs.declared.orders.Order.{Order}
use Rattle.host.specs.declared.orders.Readings.{Readings}

-- the point, µm, and the number of orders accepted
pub record Host : Type 0 where
  pub x : ℤ
  pub y : ℤ
  pub z : ℤ
  pub orders : ℕ

-- at first: zero
abbrev pub fresh_host : Host
fresh_host = record { x = pos 0; y = pos 0; z = pos 0; orders = 0 }

-- the block of an order from its readings: from the host's point to the order's; its mark is the order's place from 1
abbrev pub block_of : Host → Readings → Block
block_of h r =
    plain_block
    (value_of r.x -ℤ h.x)
    (value_of r.y -ℤ h.y)
    (value_of r.z -ℤ h.z)
    (or_zero (value_of r.speed))
    (or_zero (value_of r.radius))
    (h.orders + 1)

abbrev pub order_block : Host → Order → (offset : Point) → Block
order_block h o offset = block_of h (readings_of o offset)

-- the host behind an order that was accepted: at the order's point, with one order more
abbrev pub host_behind : Host → Readings → Host
host_behind h r = record { x = value_of r.x; y = value_of r.y; z = value_of r.z; orders = h.orders + 1 }

-- the point as doubles, µm: each is exactly that whole number (the law `position_exact`)
abbrev pub position_of : Host → Point
position_of h = record { x = of_int binary64 h.x; y = of_int binary64 h.y; z = of_int binary64 h.z }

-- numbers of a host, and the low bits of each that count
abbrev pub host_size : ℕ
host_size = 4

abbrev pub host_bits : ℕ
host_bits = 32

-- a coordinate by two's complement; the number of orders
abbrev pub coordinate_of : ℕ → ℤ
coordinate_of n = signed_of host_bits n

abbrev pub orders_of : ℕ → ℕ
orders_of n = n % 2 ^ host_bits

-- the host that four numbers keep, whatever they are
abbrev pub host_of : List ℕ → Host
host_of numbers =
    record {
      x = coordinate_of (get_or numbers 0 0);
      y = coordinate_of (get_or numbers 1 0);
      z = coordinate_of (get_or numbers 2 0);
      orders = orders_of (get_or numbers 3 0);
    }

-- and the numbers that keep a host
abbrev pub host_numbers : Host → List ℕ
host_numbers h = bits_of host_bits h.x ∷ bits_of host_bits h.y ∷ bits_of host_bits h.z ∷ h.orders ∷ []
