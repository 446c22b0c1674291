-- `planner::shown`: one law for each way out, from those of the outcomes.
use Rattle.std.proofs.Common.{ℕ, ◌+◌, sym, ap, ◌∙◌}
use Rattle.profile.specs.Passes.{forward}
use Rattle.line.specs.Ring.{spans_in}
use Rattle.planner.specs.View.{view_of}
use Rattle.planner.proofs.Outcomes.{shown_all, shown_none}
use Rattle.planner.proofs.shown.Goals as goal

pub returns-then-list-n : goal.returns-then-list-n
returns-then-list-n c =
    shown_none c.args.memory.now c.args.list.now (λ e. c.if-list-n.true (e ∙ ap (λ (n : ℕ). n + 1) (sym c.told-n.ensures.number_is)))

pub returns : goal.returns
returns c =
    let m = view_of c.args.memory.now in
    let told = c.told-n.ensures.number_is in
    shown_all c.args.memory.now c.args.list.now c.show.new.list (c.if-list-n.false ∙ ap (λ (n : ℕ). n + 1) told)
    (c.show.ensures ∙ ap (λ (n : ℕ). forward m.committed (spans_in m n 0)) told)
