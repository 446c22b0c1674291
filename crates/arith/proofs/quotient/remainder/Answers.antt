-- `arith::quotient::remainder` meets its contract: the difference modulo 2^64 is the difference, which is below d.
use Rattle.std.proofs.Common.{◌-◌, ◌+◌, ◌*◌, ◌/◌, ◌%◌, ◌^◌, ◌≤◌, ℕ, arith}
use Rattle.arith.proofs.Division.{half_product, digit_below, lead_within, remainder_wraps}
use Rattle.arith.proofs.quotient.remainder.Goals as goal
use Rattle.arith.proofs.quotient.remainder.Goals.{Start}

within : (c : Start) → c.args.q * (c.args.d / 2 ^ 32) ≤ c.args.high
within c = let a = c.args in lead_within a.high a.low a.d a.q c.requires.1 c.requires.2

small : (c : Start) → c.args.q * (c.args.d % 2 ^ 32) ≤ (2 ^ 32 - 1) * (2 ^ 32 - 1)
small c =
    let a = c.args in
    half_product (rw c.requires.2 (digit_below a.high a.low a.d (omega arith) c.requires.0 c.requires.1)) (omega arith)

pub overflow_sub-left : goal.overflow_sub-left
overflow_sub-left c = within c

pub returns : goal.returns
returns c =
    let a = c.args in
    let x : ℕ = (a.high - a.q * (a.d / 2 ^ 32)) % 2 ^ 32 * 2 ^ 32 + a.low in
    let y : ℕ = a.q * (a.d % 2 ^ 32) in
    remainder_wraps a.high a.low a.d a.q ((x + (2 ^ 64 - y)) % 2 ^ 64) c.requires.1 c.ranges.d.fits (omega arith) c.requires.2 (within c) (omega (arith, small c)) (omega arith) (omega (arith, small c))
