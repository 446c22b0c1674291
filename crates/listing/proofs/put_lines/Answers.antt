-- `listing::put_lines`: a turn stores one line more. From the laws of lines.
use Rattle.std.proofs.Common.{◌+◌, ◌<◌, ◌≤◌, length, arith, rules}
use Rattle.given_text.specs.Given.{most_given}
use Rattle.listing.specs.Parts.{part_blocks}
use Rattle.listing.proofs.Lines.{storing_all, storing_next}
use Rattle.listing.proofs.put_lines.Goals as goal
use Rattle.listing.proofs.put_lines.Goals.{In-loop-k}

-- what is known in a turn
module _ (turn : In-loop-k) where
  here : turn.loop-k.k < turn.args.first + part_blocks
  here = omega arith

  room : turn.loop-k.end + most_given ≤ length turn.loop-k.text
  room = omega (arith, here, turn.loop-k.invariant.stored.room)

pub loop-k-preserved : goal.loop-k-preserved
loop-k-preserved c =
    let args = c.args in
    let turn = (goal.at.loop-k-preserved c).In-loop-k in
    record {
      sized = search rules;
      stored =
          storing_next args.blocks args.tape.sheet.now args.tape.plan.now c.loop-k.k c.loop-k.invariant.stored (omega arith) (here turn)
          (omega arith) (omega (arith, room turn)) c.put_block-end.ensures;
    }

pub returns : goal.returns
returns c = storing_all _ _ _ c.loop-k.invariant.stored (omega arith)
