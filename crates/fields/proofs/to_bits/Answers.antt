-- `fields::to_bits`: the low bits of the whole word's, from `bits_cut`.
use mathlib.Core.Path.{◌≡◌, ap, ◌∙◌}
use Prim.Native.Nat.{ℕ, ◌+◌, ◌-◌, ◌%◌, ◌^◌}
use native.Mathlib.Omega.{arith}
use mir.Facts.{to_z-of_z}
use Rattle.fields.specs.Signed.{bits_of}
use Rattle.fields.proofs.Signed.{bits_cut, bits_lt}
use Rattle.fields.proofs.to_bits.Goals as goal

pub returns : goal.returns
returns c =
    let z = c.args.z in
    let width = c.args.width in
    let word : c.to_word.result ≡ bits_of 64 z = c.to_word.ensures ∙ ap (bits_of 64) (to_z-of_z c.ranges.z) in
    let whole : 64 ≡ 64 - width + width = omega arith in
    let is : c.to_word.result % c.pow2.result ≡ bits_of width z =
    (λ i. word i % c.pow2.ensures.is i) ∙ ap (λ (k : ℕ). bits_of k z % 2 ^ width) whole ∙ bits_cut (64 - width) width z in
    record { is = is; small = rw is (bits_lt width z) }
