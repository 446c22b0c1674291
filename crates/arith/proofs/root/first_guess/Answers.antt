-- `arith::root::first_guess` meets its contract: Newton's step is at least the root, and from that power of two it is below 2^32.
use Rattle.std.proofs.Common.{◌≡◌, ℕ, ◌+◌, ◌-◌, ◌*◌, ◌/◌, ◌%◌, ◌^◌, ◌<◌, refl, mod-eq_of_lt, one-mul, arith}
use lib.Count.{count_leading_zeros}
use lib.Pow.{pow-lt}
use Rattle.arith.proofs.RootLaws.{guess_below, newton_above}
use Rattle.arith.proofs.root.first_guess.Goals as goal
use Rattle.arith.proofs.root.first_guess.Goals.{Start}

module _ (c : Start) where
  abbrev half : ℕ
  half = (64 - count_leading_zeros 64 c.args.n) / 2

  abbrev s : ℕ
  s = 1 * 2 ^ half % 2 ^ 64

  -- the power of two fits a word
  s_is : s ≡ 2 ^ half
  s_is = let few : half < 64 = omega arith in rw one-mul (mod-eq_of_lt (pow-lt few))

  below : (0 < s) × ((s + c.args.n / s) / 2 < 2 ^ 32)
  below = guess_below c.args.n _ s refl c.ranges.n.fits s_is

pub overflow_add-result : goal.overflow_add-result
overflow_add-result c = record { fits = omega (arith, below c) }

pub returns : goal.returns
returns c = ((below c).1, newton_above _ _ (below c).0)
