-- `client::refused_still` meets its contract: the line refuses the block by 2 and stays as it was.
use mathlib.Core.Path.{◌≡◌, sym, ap, ◌∙◌}
use borrow.Author.Tests.{eq-eqb}
use Rattle.line.specs.Answers.{done_means}
use Rattle.line.specs.Blocks.{add, line_answer, line_after}
use Rattle.client.specs.Work.{line_of_one}
use Rattle.client.proofs.Worked.{ahead, still, held_one, worked, still_number, still_refused}
use Rattle.client.proofs.refused_still.Goals as goal
use Rattle.client.proofs.refused_still.Goals.{After-add-none}

-- what the second add answers, and what it leaves
said : (c : After-add-none) → done_means c.add-none.result.answer ≡ line_answer (line_of_one ahead) (add still)
said c =
    let held = held_one ahead still c.limits_m.ensures c.block.ensures c.fresh-made.ensures c.add-one.ensures in
    (rw c.block-2.ensures at (c.add-none.ensures.line (line_of_one ahead) held)).0

pub expect-requires : goal.expect-requires
expect-requires c = absurd (still_refused (sym (ap done_means c.in-Ok.is) ∙ said c.before))

pub expect-requires-in-Err : goal.expect-requires-in-Err
expect-requires-in-Err c =
    eq-eqb _ _ (c.refusal_number.ensures ∙ still_number _ (sym (ap done_means c.in-Err.is) ∙ said c.before.before))

pub expect-requires-2 : goal.expect-requires-2
expect-requires-2 c =
    let held = held_one ahead still c.limits_m.ensures c.block.ensures c.fresh-made.ensures c.add-one.ensures in
    let left = rw c.block-2.ensures at (c.add-none.ensures.line (line_of_one ahead) held) in
    eq-eqb _ _ (c.told.ensures.line (line_after (line_of_one ahead) (add still)) left.1 ∙ worked.stays)
