-- `listing::put_head`: the header has room, and stands in part 0 only.
use mathlib.Core.Path.{refl}
use native.Mathlib.Omega.{arith}
use Rattle.text.proofs.Store.{stored_with_room}
use Rattle.listing.proofs.Lengths.{header_length}
use Rattle.listing.proofs.Parts.{first_stored, later_stored}
use Rattle.listing.proofs.put_head.Goals as goal

pub returns-then-p-gt0 : goal.returns-then-p-gt0
returns-then-p-gt0 c = later_stored _ _ _ c.if-p-gt0.true

pub returns : goal.returns
returns c =
    first_stored c.args.p (λ h. omega (arith, c.if-p-gt0.false)) refl
    (stored_with_room (omega (arith, header_length)) c.put_header.ensures c.behind.ensures)
