-- `doubles::nearest_shift` meets its contract: by a power from 2 ^ 64 on, a number below 2 ^ 63 is less than a half.
use Prim.Native.Nat.{ℕ, ◌*◌, ◌^◌, ◌<◌}
use native.Mathlib.Nat.{lt_of_lt_of_le}
use native.Mathlib.Omega.{arith}
use lib.Pow.{pow_mono}
use Rattle.doubles.proofs.Closest.{closest_small}
use Rattle.doubles.proofs.nearest_shift.Goals as goal

twice : (n : ℕ) → n < 2 ^ 63 → n * 2 < 2 ^ 64
twice n h = omega arith

pub returns-then-k-gt63 : goal.returns-then-k-gt63
returns-then-k-gt63 c =
    let a = c.args in
    closest_small a.n (2 ^ a.k) (lt_of_lt_of_le (twice a.n c.requires) (pow_mono c.if-k-gt63.true))
