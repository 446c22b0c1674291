-- That positions are rounded to the nearest µm with the half away from zero, and feeds rounded down. From arith's laws of quotients.
use mathlib.Core.Path.{ap, sym}
use mathlib.Core.Bool.{Bool}
use Prim.Native.Nat.{ℕ, ◌*◌, ◌/◌, ◌≤◌}
use native.Mathlib.Omega.{arith}
use lib.Dec.{lit<}
use lib.IntN.{ℤ, pos, nat_abs}
use lib.Signed.{lt_z}
use Rattle.arith.specs.Signed.{or_zero, signed_by}
use Rattle.arith.proofs.NearestLaws.{half_up_quotient}
use Rattle.rs274.specs.Meaning.{NearestMicron, LargestFeed}
use Rattle.rs274.specs.Modal.{unit_of, feed_of, rounded_of}
use Rattle.rs274.proofs.Positions.{rounded_size}

-- A position is rounded so.
pub rounded_nearest : (z : ℤ) → NearestMicron z (rounded_of z)
unfolding rounded_of
rounded_nearest z =
    record {
      size = rw (rounded_size z) (half_up_quotient (nat_abs z) 50 (lit< tt));
      sign = ap (signed_by (lt_z z (pos 0))) (sym (rounded_size z));
    }

-- A feed is rounded down so.
pub feed_down : (inches : Bool) (v : ℤ) → LargestFeed inches v (feed_of inches v)
unfolding feed_of
feed_down inches v = record { not_above = below (or_zero v * unit_of inches); largest = λ f h. most (or_zero v * unit_of inches) f h }
  where
    below : (n : ℕ) → n / 600_000 * 600_000 ≤ n
    below n = omega arith

    most : (n f : ℕ) → f * 600_000 ≤ n → f ≤ n / 600_000
    most n f h = omega arith
