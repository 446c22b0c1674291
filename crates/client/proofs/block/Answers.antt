-- `client::block` meets its contract: its moves are those that are handed in.
use native.Mathlib.Omega.{arith}
use lib.IntN.{pos}
use Rattle.arith.proofs.SignedLaws.{fits_small}
use Rattle.fullerecru.proofs.Displayed.{plain_back}
use Rattle.client.proofs.block.Goals as goal

pub returns : goal.returns
returns c =
    let f = c.ranges in
    plain_back c.plain_block.ensures f.x f.y (fits_small (pos 0) (omega arith))
