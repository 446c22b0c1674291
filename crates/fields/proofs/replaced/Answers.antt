-- `fields::replaced`: no step leaves the word, from `with_fits`; the sum is the definition, from `with_def`.
use mathlib.Core.Path.{sym}
use Prim.Native.Nat.{ℕ, ◌+◌, ◌*◌, ◌/◌, ◌%◌, ◌^◌, ◌≤◌, ◌<◌}
use native.Mathlib.Omega.{arith}
use Rattle.fields.proofs.Parts.{with_fits, with_def}
use Rattle.fields.proofs.replaced.Goals as goal
use Rattle.fields.proofs.replaced.Goals.{After-pow2-size}

module _ (c : After-pow2-size) where
  abbrev n : ℕ
  n = c.args.n

  abbrev unit : ℕ
  unit = c.pow2-unit.result

  abbrev size : ℕ
  size = c.pow2-size.result

  abbrev high : ℕ
  high = n / unit / size * size + c.args.v % size

  fits : (high ≤ high * unit) × (high * unit + n % unit < 2 ^ 64)
  fits =
      with_fits n c.args.low c.args.width c.args.v c.pow2-unit.ensures.is
      c.pow2-size.ensures.is c.requires.1.1 c.ranges.n.fits

pub returns : goal.returns
returns c = sym (with_def _ _ _ _ c.pow2-unit.ensures.is c.pow2-size.ensures.is)

pub overflow_add-result : goal.overflow_add-result
overflow_add-result c = record { fits = omega (arith, fits c) }

pub overflow_mul-result-2 : goal.overflow_mul-result-2
overflow_mul-result-2 c = record { fits = omega (arith, fits c) }

pub overflow_add-result-2 : goal.overflow_add-result-2
overflow_add-result-2 c = record { fits = omega (arith, fits c) }
