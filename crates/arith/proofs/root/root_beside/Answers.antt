-- `arith::root::root_beside` meets its contract: r or the number below it is the one whose square is not above n, while the next number's is.
use Rattle.std.proofs.Common.{sub-add_cancel}
use Rattle.arith.proofs.RootLaws.{root_found}
use Rattle.arith.proofs.root.root_beside.Goals as goal

pub returns-then-r-n : goal.returns-then-r-n
returns-then-r-n c = root_found c.if-r-n.true c.requires.3

pub returns-else-r-n : goal.returns-else-r-n
returns-else-r-n c = root_found c.requires.2 (rw (sub-add_cancel c.requires.0) c.if-r-n.false)
