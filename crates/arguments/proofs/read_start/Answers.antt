-- `arguments::read_start` meets its contract: what is left is that of `carry_out`, and the words those of `read_seen`.
use Rattle.arguments.proofs.Read.{carried_started}
use Rattle.arguments.proofs.read_start.Goals as goal

pub returns : goal.returns
returns g c =
    let left = c.carry_out in
    let seen = c.read_seen-seen in
    carried_started _ seen.result seen.ensures.words _ left.result seen.ensures.is left.ensures
