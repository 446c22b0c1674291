-- The numbers that keep a host: whatever they are the point is within 32 bits, and a host behind an accepted order is read back from them. From
-- the laws of two's complement.
use mathlib.Core.Path.{◌≡◌, refl, ap, ◌∙◌}
use mathlib.Core.Bool.{true}
use Prim.Native.Nat.{ℕ, ◌+◌, ◌^◌, ◌≤◌, ◌<◌}
use native.Mathlib.Nat.{mod-eq_of_lt}
use native.Mathlib.Omega.{arith}
use lib.Dec.{lit<}
use lib.ListN.{length}
use lib.Ieee.{binary64, fin, of_int, to_signed}
use lib.IntN.{ℤ, pos, negsuc, nat_abs}
use lib.Signed.{mag}
use Rattle.arith.proofs.SignedLaws.{mag_le, read_back, small_back}
use Rattle.fields.specs.Signed.{signed_of, bits_of}
use Rattle.fields.proofs.Signed.{signed_bits, signed_range}
use Rattle.display.proofs.Answers.{then_zero}
use Rattle.line.specs.Blocks.{add_refusal}
use Rattle.machine.specs.Checks.{block_refusal}
use Rattle.machine.proofs.Bounds.{in_range}
use Rattle.doubles.specs.Readings.{most_read}
use Rattle.doubles.proofs.Positions.{position_exact, position_not_minus_zero}
use Rattle.host.specs.Fields.{Within, value_of}
use Rattle.host.specs.State.{Host, fresh_host, host_bits, host_size, coordinate_of, host_of, host_numbers, host_behind, block_of}
use Rattle.host.specs.declared.orders.Readings.{Readings}

-- A host is kept in as many numbers as are lent for it.
pub host_sized : (h : Host) → length (host_numbers h) ≡ host_size
host_sized h = refl

-- A coordinate that is kept, whatever its number.
pub coordinate_small : (n : ℕ) → nat_abs (coordinate_of n) ≤ 2 ^ 31
coordinate_small n = go (signed_of host_bits n) (signed_range host_bits n (lit< tt))
  where
    go : (z : ℤ) → mag z < 2 ^ 31 → nat_abs z ≤ 2 ^ 31
    go (pos k) h = omega arith
    go (negsuc k) h = omega arith

-- The double of it, which `position` gives, is exactly that whole number, and never -0.0.
pub point_exact : (n : ℕ) → to_signed 63 (of_int binary64 (coordinate_of n)) ≡ coordinate_of n
point_exact n = position_exact (coordinate_of n) (omega (arith, coordinate_small n))

pub point_not_minus_zero : (n : ℕ) → of_int binary64 (coordinate_of n) ≡ fin true 0 (pos 0) → ⊥
point_not_minus_zero n = position_not_minus_zero (coordinate_of n) (omega (arith, coordinate_small n))

-- The machine works it out with nothing lost,
module _ (n : ℕ) {k : ℤ} (kept : k ≡ coordinate_of n) where
  kept_back : read_back k ≡ coordinate_of n
  kept_back = ap read_back kept ∙ small_back (coordinate_of n) (omega (arith, coordinate_small n))

  pub double_fits : nat_abs (read_back k) ≤ 2 ^ 53
  double_fits = rw kept_back (omega (arith, coordinate_small n))

  -- and a move from it to a coordinate that was read fits.
  module _ {v z : ℤ} (read : v ≡ z) (within : nat_abs z ≤ most_read) where
    read_is : read_back v ≡ z
    read_is = ap read_back read ∙ small_back z (omega (arith, within))

    pub move_fits : nat_abs (read_back v) + nat_abs (read_back k) < 2 ^ 63
    move_fits = rw (read_is, kept_back) (omega (arith, within, coordinate_small n))

-- A coordinate that was read is kept as it is,
coordinate_back : (z : ℤ) → nat_abs z ≤ most_read → coordinate_of (bits_of host_bits z) ≡ z
coordinate_back z h = signed_bits host_bits z (lit< tt) (omega (arith, mag_le z))

-- and so is a host behind an order whose block passed: its mark, one more than the orders before it, is far below 2 ^ 32.
pub host_back : (h : Host) (r : Readings) (held : ℕ) → Within r → add_refusal held (block_of h r) ≡ 0 → host_of (host_numbers (host_behind h r)) ≡ host_behind h r
host_back h r held within passed =
    let mark = (in_range (block_of h r) (then_zero (block_refusal (block_of h r)) passed).0).mark_below in
    let orders = mod-eq_of_lt {n = h.orders + 1} {m = 2 ^ host_bits} (omega arith) in
    λ i.
    record {
      x = coordinate_back (value_of r.x) within.x i;
      y = coordinate_back (value_of r.y) within.y i;
      z = coordinate_back (value_of r.z) within.z i;
      orders = orders i;
    }

-- A fresh host is read back.
pub fresh_back : host_of (host_numbers fresh_host) ≡ fresh_host
unfolding signed_of bits_of
fresh_back = refl
