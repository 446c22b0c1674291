-- `machine::answer::junction_answer`: limits and blocks that pass have a junction cap.
use mathlib.Core.Path.{sym}
use Rattle.display.proofs.Answers.{then_zero}
use Rattle.machine.proofs.Bounds.{limits_below}
use Rattle.machine.proofs.answer.junction_answer.Goals as goal

pub junction_cap-requires : goal.junction_cap-requires
junction_cap-requires c =
    let none = then_zero _ (sym c.in_ok-check_pair.ensures) in
    let first = then_zero _ none.0 in
    (limits_below _ first.0, first.1, none.1)
