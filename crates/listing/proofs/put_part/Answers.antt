-- `listing::put_part`: the header, in part 0, and the lines behind it. From the laws of a part.
use native.Mathlib.Omega.{arith}
use Rattle.listing.proofs.Parts.{head_most, part_behind, part_stored}
use Rattle.listing.proofs.put_part.Goals as goal

pub returns-then-p-ge-PARTS : goal.returns-then-p-ge-PARTS
returns-then-p-ge-PARTS c = let args = c.args in part_behind args.blocks args.tape.sheet.now args.tape.plan.now _ _ c.if-p-ge-PARTS.true

-- the header is stored
pub put_lines-requires : goal.put_lines-requires
put_lines-requires c = (omega (arith, c.if-p-ge-PARTS.false), omega (arith, c.put_head-at.ensures.next, head_most c.args.p))

pub returns : goal.returns
returns c =
    let args = c.args in
    part_stored args.blocks args.tape.sheet.now args.tape.plan.now args.p (omega (arith, c.if-p-ge-PARTS.false))
    c.put_head-at.ensures c.put_lines.ensures
