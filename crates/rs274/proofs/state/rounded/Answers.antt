-- `rs274::state::rounded` meets its contract, from the unsigned_abs.
use mathlib.Core.Path.{◌≡◌, ap, ◌∙◌}
use Prim.Native.Nat.{◌+◌, ◌/◌}
use lib.IntN.{pos, nat_abs}
use lib.Signed.{lt_z}
use Rattle.arith.specs.Signed.{signed_by}
use Rattle.arith.proofs.SignedLaws.{read_back_lem}
use Rattle.rs274.specs.Modal.{rounded_of}
use Rattle.rs274.proofs.Positions.{rounded_back}
use Rattle.rs274.proofs.state.rounded.Goals as goal
use Rattle.rs274.proofs.state.rounded.Goals.{After-unsigned_abs}

size : (c : After-unsigned_abs) → c.unsigned_abs.result ≡ nat_abs c.args.position
size c = c.unsigned_abs.ensures.value ∙ ap nat_abs (read_back_lem c.ranges.position)

pub returns : goal.returns
unfolding rounded_of
returns c =
    rounded_back c.signed_by.result c.args.position c.requires
    (c.signed_by.ensures ∙ (λ i. signed_by (lt_z (read_back_lem c.ranges.position i) (pos 0)) ((size c.before i + 50) / 100)))
