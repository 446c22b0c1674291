-- `replay_text::write_answer`: the line of each case of the answer has room.
use native.Mathlib.Omega.{arith}
use Rattle.replay_text.specs.Texts.{answer_text}
use Rattle.given_text.proofs.GivenLines.{wrote}
use Rattle.replay_text.proofs.Lines.{refused_few}
use borrow.Author.Rules.{rules}
use Rattle.replay_text.proofs.write_answer.Goals as goal

pub returns-in-None : goal.returns-in-None
unfolding answer_text
returns-in-None c =
    rw (c.in-Ok.is, c.in-None.is) (wrote (omega arith) c.requires c.put_added.ensures c.behind.ensures)

pub returns-in-Some : goal.returns-in-Some
unfolding answer_text
returns-in-Some c =
    rw (c.in-Ok.is, c.in-Some.is) c.store_given.ensures

pub returns-in-Err : goal.returns-in-Err
unfolding answer_text
returns-in-Err c =
    rw (c.in-Err.is, ← c.refusal_number.ensures)
    (wrote (refused_few c.refusal_number.result (search rules)) c.requires c.put_refused.ensures c.behind-in-Err.ensures)
