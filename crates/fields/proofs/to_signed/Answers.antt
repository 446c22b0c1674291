-- `fields::to_signed`: the bits moved up by half the size and down again, from `signed_moved`.
use mathlib.Core.Path.{◌≡◌, ap, ◌∙◌}
use Prim.Native.Nat.{ℕ, ◌+◌, ◌/◌, ◌^◌, ◌≤◌, ◌%◌, ◌<◌}
use native.Mathlib.Nat.{mod-lt}
use native.Mathlib.Omega.{arith}
use mir.Syntax.{w64}
use mir.Val.{SFits, to_z, of_z}
use mir.Facts.{to_z_pos, to_z-of_z}
use lib.IntN.{ℤ, ◌-ℤ◌}
use lib.Pow.{pow_mono}
use Rattle.fields.specs.Signed.{signed_of}
use Rattle.fields.proofs.Signed.{signed_moved, signed_size}
use Rattle.fields.proofs.to_signed.Goals as goal
use Rattle.fields.proofs.to_signed.Goals.{After-pow2-size}

module _ (c : After-pow2-size) where
  abbrev bits : ℕ
  bits = c.args.bits

  abbrev width : ℕ
  width = c.args.width

  abbrev size : ℕ
  size = c.pow2-size.result

  abbrev moved : ℕ
  moved = (bits % size + size / 2) % size

  small : moved < size
  small = mod-lt (bits % size + size / 2) c.pow2-size.ensures.positive

  power : 2 ^ width ≤ 2 ^ 63
  power = pow_mono {i = width} {j = 63} (omega arith)

  bounded : size ≤ 2 ^ 63
  bounded = rw c.pow2-size.ensures.is power

  value : to_z w64 moved -ℤ to_z w64 (size / 2) ≡ signed_of width bits
  value =
      let m : moved < 2 ^ 63 = omega (arith, small, bounded) in
      let h : size / 2 < 2 ^ 63 = omega (arith, bounded) in
      rw (to_z_pos w64 m, to_z_pos w64 h) (signed_moved width c.pow2-size.ensures.is bits c.pow2-size.ensures.positive)

  fitting : SFits w64 (signed_of width bits)
  fitting = record { sfits = omega (arith, signed_size width bits, power) }

pub returns : goal.returns
returns c = ap (λ (z : ℤ). to_z w64 (of_z w64 z)) (value c) ∙ to_z-of_z (fitting c)
