-- `machine::corner::turn` meets its contract, from the gap.
use mathlib.Core.Path.{ap, ◌∙◌}
use Prim.Native.Nat.{◌*◌, ◌^◌, ◌<◌}
use native.Mathlib.Omega.{arith}
use lib.IntN.{ℤ, pos, nat_abs, ◌*ℤ◌}
use Rattle.arith.specs.Signed.{gap_of}
use Rattle.arith.proofs.SignedLaws.{small_back, times_back}
use Rattle.machine.specs.Numbers.{unit, turn_from}
use Rattle.machine.proofs.Dots.{dot_below, scaled_dot_below}
use Rattle.machine.proofs.corner.turn.Goals as goal
use Rattle.machine.proofs.corner.turn.Goals.{After-dot}

-- what `dot` gives, with its size
dot_small : (c : After-dot) → nat_abs c.dot.result < 2 ^ 44
dot_small c = let s = c.before in rw c.dot.ensures (dot_below s.args.a s.args.b s.requires.1 s.requires.2)

pub times-requires : goal.times-requires
times-requires c = omega (arith, ap nat_abs (small_back c.dot.result (omega (arith, dot_small c))), dot_small c)

pub returns : goal.returns
unfolding turn_from
returns c =
    let scaled = times_back c.times.result (pos (unit * unit)) c.dot.result (omega arith) (omega (arith, dot_small c.before.before)) c.times.ensures ∙ ap (λ (z : ℤ). pos (unit * unit) *ℤ z) c.dot.ensures in
    let small : nat_abs c.times.result < 2 ^ 60 = rw scaled (scaled_dot_below c.args.a c.args.b c.requires.1 c.requires.2) in
    c.gap.ensures ∙ ap (gap_of c.args.product) (small_back c.times.result (omega arith) ∙ scaled)
