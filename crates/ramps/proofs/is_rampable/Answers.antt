-- `ramps::is_rampable`: where a sum wraps the numbers are not sized.
use Rattle.std.proofs.Common.{ℕ, Bool, ◌&&◌, ◌+◌, ◌%◌, ◌^◌, leb, ap, ◌∙◌, refl}
use Rattle.machine.proofs.Rampables.{rampable_wrapped}
use Rattle.ramps.proofs.is_rampable.Goals as goal

pub returns : goal.returns
returns c =
    let a = c.args in
    let sum : ℕ → ℕ = λ speed. (speed + a.n.reach) % 2 ^ 64 in
    ap (λ (t : Bool). t && (leb a.entry (sum a.exit) && leb a.exit (sum a.entry))) c.is_sized.ensures
    ∙ rampable_wrapped a.n a.entry a.exit refl refl
