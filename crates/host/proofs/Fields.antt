-- What is read of an order, and what is refused of it. From the laws of doubles and of signed numbers.
use mathlib.Core.Path.{◌≡◌, refl}
use Prim.Native.Nat.{◌≤◌}
use native.Mathlib.Omega.{arith}
use lib.Ieee.{Float}
use lib.IntN.{ℤ, nat_abs}
use Rattle.doubles.specs.Readings.{most_read, reading_of}
use Rattle.std.specs.Prelude.{Result, Ok, Err}
use Rattle.display.specs.declared.Refusal.{Refusal}
use Rattle.doubles.proofs.Meaning.{reading_within}
use Rattle.host.specs.Fields.{readings_of, value_of, Within}
use Rattle.host.specs.declared.orders.Order.{Order}
use Rattle.host.specs.declared.orders.Point.{Point}

-- Every coordinate is within the greatest number that is read.
value_within : (x : Float) → nat_abs (value_of (reading_of x)) ≤ most_read
value_within x = go (reading_of x) refl
  where
    go : (r : Result ℤ Refusal) → reading_of x ≡ r → nat_abs (value_of r) ≤ most_read
    go (Err why) e = omega arith
    go (Ok z) e = reading_within x z e

pub fields_read : (o : Order) (offset : Point) → Within (readings_of o offset)
unfolding readings_of
fields_read o offset = record { x = value_within _; y = value_within _; z = value_within _ }
