-- `planner::take`: one law for each way out.
use Rattle.std.proofs.Common.{rules}
use Rattle.planner.specs.View.{view_of}
use Rattle.planner.proofs.Outcomes.{take_refused, take_gave}
use Rattle.planner.proofs.take.Goals as goal

pub returns-then-memory-eq0 : goal.returns-then-memory-eq0
unfolding view_of
returns-then-memory-eq0 c = take_refused c.args.memory.now c.told-memory c.if-memory-eq0.true

pub give_first-requires : goal.give_first-requires
unfolding view_of
give_first-requires c = search rules

pub returns : goal.returns
unfolding view_of
returns c =
    let some = c.if-memory-eq0.false in
    take_gave c.args.memory.now c.give_first.result c.give_first.new.memory (search rules) c.give_first.ensures
