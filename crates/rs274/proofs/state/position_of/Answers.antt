-- `rs274::state::position_of` meets its contract, by whether a word stands and which of G90 and G91 is in force.
use Rattle.std.proofs.Common.{◌≡◌, ◌≤◌, ◌∙◌, ap, nat_abs}
use Rattle.arith.proofs.SignedLaws.{read_back_lem}
use Rattle.words.specs.Number.{most_number}
use Rattle.rs274.specs.Modal.{length_in}
use Rattle.rs274.proofs.Positions.{part_back, position_on, position_stays, position_to, sum_back, sum_fits, word_back}
use Rattle.rs274.proofs.state.position_of.Goals as goal
use Rattle.rs274.proofs.state.position_of.Goals.{After-length_in-length}

-- the word's number, and the length that it says
module _ (c : After-length_in-length) where
  small : nat_abs c.in-Some.v ≤ most_number
  small = rw c.in-Some.is at c.requires.1

  length_is : c.length_in-length.result ≡ length_in c.args.inches c.in-Some.v
  length_is = c.length_in-length.ensures ∙ ap (length_in c.args.inches) (word_back c.in-Some.v small)

pub overflow_add-result : goal.overflow_add-result
overflow_add-result c =
    let d = (goal.at.overflow_add-result c).After-length_in-length in
    sum_fits c.args.inches c.args.before c.in-Some.v c.length_in-length.result c.requires.0 (small d) (length_is d)

pub returns-in-None : goal.returns-in-None
returns-in-None c = read_back_lem c.ranges.before ∙ position_stays _ _ _ _ c.in-None.is

pub returns-then-incremental : goal.returns-then-incremental
returns-then-incremental c =
    let d = (goal.at.returns-then-incremental c).After-length_in-length in
    sum_back c.args.inches c.args.before c.in-Some.v c.length_in-length.result c.requires.0 (small d) (length_is d)
    ∙ position_on c.args.inches c.args.incremental c.args.before c.args.word c.in-Some.is c.if-incremental.true

pub returns-else-incremental : goal.returns-else-incremental
returns-else-incremental c =
    let d = (goal.at.returns-else-incremental c).After-length_in-length in
    part_back c.args.inches c.args.before c.in-Some.v c.length_in-length.result c.requires.0 (small d) (length_is d)
    ∙ position_to c.args.inches c.args.incremental c.args.before c.args.word c.in-Some.is c.if-incremental.false
