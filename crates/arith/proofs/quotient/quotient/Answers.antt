-- `arith::quotient::quotient` meets its contract: two digits of a long division by the scaled divisor.
use Rattle.std.proofs.Common.{ℕ, ◌+◌, ◌-◌, ◌*◌, ◌/◌, ◌%◌, ◌^◌, ◌<◌, refl, ◌∙◌, mod-lt, arith}
use lib.Count.{count_leading_zeros}
use Rattle.arith.proofs.Division.{Scaled, scaled, digit_below, digits_join}
use Rattle.arith.proofs.quotient.quotient.Goals as goal
use Rattle.arith.proofs.quotient.quotient.Goals.{After-digit, After-digit-first, After-remainder-second, Start}

module _ (c : Start) where
  abbrev scale : ℕ
  scale = 2 ^ count_leading_zeros 64 c.args.d

  abbrev divisor : ℕ
  divisor = c.args.d * scale % 2 ^ 64

  abbrev top : ℕ
  top = c.args.high * scale % 2 ^ 64 + c.args.low / 2 / 2 ^ (63 - count_leading_zeros 64 c.args.d)

  abbrev rest : ℕ
  rest = c.args.low * scale % 2 ^ 64

  scaling : Scaled c.args.high c.args.low c.args.d divisor top rest
  scaling = scaled c.args.high c.args.low c.args.d _ refl c.requires c.ranges.d.fits c.ranges.low.fits

  -- a digit of the division is below the base
  digit_small : (high low : ℕ) → high < divisor → low < 2 ^ 32 → (high * 2 ^ 32 + low) / divisor < 2 ^ 32
  digit_small high low = digit_below high low divisor (omega (arith, scaling.wide))

pub overflow_add-top : goal.overflow_add-top
overflow_add-top c = record { fits = omega (arith, (scaling c).below, (scaling c).fits) }

pub digit-first-requires : goal.digit-first-requires
digit-first-requires c = (omega (arith, (scaling c).wide), (scaling c).below, omega arith)

pub remainder-second-requires : goal.remainder-second-requires
remainder-second-requires c = ((scaling c.before).below, omega arith, c.digit-first.ensures)

-- the first digit
first_below : (c : After-digit-first) → c.digit-first.result < 2 ^ 32
first_below c = rw c.digit-first.ensures (digit_small c.before (top c.before) (rest c.before / 2 ^ 32) (scaling c.before).below (omega arith))

-- what it leaves
second_below : (c : After-remainder-second) → c.remainder-second.result < divisor c.before.before
second_below c = rw c.remainder-second.ensures (mod-lt _ (omega (arith, (scaling c.before.before).wide)))

pub overflow_mul-result : goal.overflow_mul-result
overflow_mul-result c = record { fits = omega (arith, first_below c.before) }

pub digit-requires : goal.digit-requires
digit-requires c = (omega (arith, (scaling c.before.before).wide), second_below c, omega arith)

pub overflow_add-result : goal.overflow_add-result
overflow_add-result c =
    let p = c.before.before.before in
    let last : c.digit.result < 2 ^ 32 = rw c.digit.ensures (digit_small p c.remainder-second.result (rest p % 2 ^ 32) (second_below c.before) (omega arith)) in
    record { fits = omega (arith, first_below c.before.before, last) }

pub returns : goal.returns
returns c =
    let p = c.before.before.before in
    digits_join (top p) (rest p) (divisor p) _ c.remainder-second.result _ (omega (arith, (scaling p).wide)) c.digit-first.ensures c.remainder-second.ensures c.digit.ensures
    ∙ (scaling p).same
