-- `client::right_angle` meets its contract: the two takes answer as the line of the pair says.
use mathlib.Core.Path.{◌≡◌, sym, ap, ◌∙◌}
use Rattle.line.specs.Answers.{take_means}
use Rattle.line.specs.Blocks.{take, line_answer, line_after}
use Rattle.client.specs.Work.{line_of_two}
use Rattle.client.proofs.Worked.{east, north, held_two, gives_first, gives_second, first_given, second_given}
use Rattle.client.proofs.right_angle.Goals as goal
use Rattle.client.proofs.right_angle.Goals.{After-take-second}

-- what the two takes answer
said : (c : After-take-second) →
    (take_means c.take-first.result.answer ≡ line_answer (line_of_two east north) take)
    × (take_means c.take-second.result.answer ≡ line_answer (line_after (line_of_two east north) take) take)
said c =
    let held = held_two east north c.limits_m.ensures c.block.ensures c.block-2.ensures c.fresh-made.ensures c.add-one.ensures c.add-two.ensures in
    let first = c.take-first.ensures.line (line_of_two east north) held in
    (first.0, (c.take-second.ensures.line (line_after (line_of_two east north) take) first.1).0)

pub expect_given-requires : goal.expect_given-requires
expect_given-requires c =
    gives_first c.in-Ok.g (sym (ap take_means c.in-Ok.is) ∙ (said (goal.at.expect_given-requires c).After-take-second).0)

pub expect-requires : goal.expect-requires
expect-requires c = absurd (first_given _ (sym (ap take_means c.in-Err.is) ∙ (said (goal.at.expect-requires c).After-take-second).0))

pub expect_given-requires-in-Ok-answer : goal.expect_given-requires-in-Ok-answer
expect_given-requires-in-Ok-answer c =
    gives_second c.in-Ok-answer.g (sym (ap take_means c.in-Ok-answer.is) ∙ (said (goal.at.expect_given-requires-in-Ok-answer c).After-take-second).1)

pub expect-requires-in-Err-answer : goal.expect-requires-in-Err-answer
expect-requires-in-Err-answer c = absurd (second_given _ (sym (ap take_means c.in-Err-answer.is) ∙ (said (goal.at.expect-requires-in-Err-answer c).After-take-second).1))
