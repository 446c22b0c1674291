-- `fullerecru::planners::hand_out`: both lists are stored whole.
use mathlib.Core.Path.{◌∙◌}
use Rattle.machine.proofs.Runs.{sets_all}
use Rattle.line.specs.Answers.{given_numbers}
use Rattle.fullerecru.proofs.planners.hand_out.Goals as goal

pub returns : goal.returns
returns c =
    record {
      moves_are = c.put_moves.ensures;
      numbers_are = c.store_given_numbers.ensures ∙ sets_all (given_numbers c.args.g) c.args.numbers.now c.told-numbers;
    }
