-- The points of the worked order, mm.
use Rattle.std.specs.Float.{binary64}
use Rattle.std.specs.Float.Ieee.{of_bits}
use Rattle.host.specs.declared.orders.Point.{Point}

-- 0.0625 along X, and zero
abbrev pub along : Point
along = record { x = of_bits binary64 0x3fb0_0000_0000_0000; y = of_bits binary64 0; z = of_bits binary64 0 }

abbrev pub origin : Point
origin = record { x = of_bits binary64 0; y = of_bits binary64 0; z = of_bits binary64 0 }
