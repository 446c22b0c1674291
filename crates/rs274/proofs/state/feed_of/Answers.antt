-- `rs274::state::feed_of` meets its contract, by the number's sign.
use mathlib.Core.Path.{◌≡◌, ap, ◌∙◌}
use Prim.Native.Nat.{ℕ, ◌*◌, ◌/◌}
use lib.IntN.{nat_abs}
use Rattle.arith.proofs.SignedLaws.{read_back_lem, sign_back}
use Rattle.rs274.specs.Modal.{unit_of}
use Rattle.rs274.proofs.Positions.{feed_negative, feed_positive}
use Rattle.rs274.proofs.state.feed_of.Goals as goal
use Rattle.rs274.proofs.state.feed_of.Goals.{After-unit_of}

pub returns-then-v-lt0 : goal.returns-then-v-lt0
returns-then-v-lt0 c = feed_negative c.args.inches c.args.v (sign_back c.ranges.v c.if-v-lt0.true)

product : (c : After-unit_of)
    → c.unsigned_abs.result * c.unit_of.result ≡ nat_abs c.args.v * unit_of c.args.inches
product c =
    let s = c.before.before.before in
    λ i. (c.unsigned_abs.ensures.value ∙ ap nat_abs (read_back_lem s.ranges.v)) i * c.unit_of.ensures i

pub returns : goal.returns
returns c =
    ap (λ (n : ℕ). n / 600_000) (product c) ∙ feed_positive c.args.inches c.args.v (sign_back c.ranges.v c.if-v-lt0.false)
