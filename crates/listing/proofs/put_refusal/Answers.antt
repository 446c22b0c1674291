-- `listing::put_refusal`: a refusal's line has room, and stands in part 0 only.
use mathlib.Core.Path.{ap}
use Prim.Native.Nat.{ℕ}
use native.Mathlib.Omega.{arith}
use Rattle.text.specs.Text.{refused_at}
use Rattle.text.proofs.Lines.{refused_at_most}
use Rattle.text.proofs.Store.{stored_with_room}
use Rattle.listing.proofs.Parts.{first_stored, later_stored}
use Rattle.listing.proofs.put_refusal.Goals as goal

pub returns-then-p-gt0 : goal.returns-then-p-gt0
returns-then-p-gt0 c = later_stored _ _ _ c.if-p-gt0.true

pub returns : goal.returns
returns c =
    first_stored c.args.p (λ h. omega (arith, c.if-p-gt0.false))
    (ap (λ (n : ℕ). refused_at n c.args.r.place) c.refusal_number.ensures)
    (stored_with_room
    (omega (arith, refused_at_most c.refusal_number.result c.args.r.place c.refusal_number.type_inv (omega arith)))
    c.put_refused_at.ensures
    c.behind.ensures)
