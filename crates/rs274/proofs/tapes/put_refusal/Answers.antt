-- `rs274::tapes::put_refusal` meets its contract: a refusal's line has room.
use mathlib.Core.Path.{ap, subst}
use mathlib.Core.List.{List}
use Prim.Native.Nat.{ℕ}
use native.Mathlib.Omega.{arith}
use Rattle.text.specs.Store.{Stored}
use Rattle.text.specs.Text.{refused_at}
use Rattle.text.proofs.Lines.{refused_at_most}
use Rattle.text.proofs.Store.{stored_with_room}
use Rattle.rs274.proofs.tapes.put_refusal.Goals as goal

pub returns : goal.returns
returns c =
    subst (λ (t : List ℕ). Stored c.args.out.now 0 t c.behind.result c.put_refused_at.new.out)
    (ap (λ (n : ℕ). refused_at n c.args.r.place) c.refusal_number.ensures)
    (stored_with_room
    (omega (arith, refused_at_most c.refusal_number.result c.args.r.place c.refusal_number.type_inv (omega arith), c.requires))
    c.put_refused_at.ensures
    c.behind.ensures)
