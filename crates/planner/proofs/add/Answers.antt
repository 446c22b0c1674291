-- `planner::add`: one law for each way out.
use Rattle.std.proofs.Common.{sym}
use Rattle.std.proofs.lemmas.Result.{err_from_is_err_and}
use Rattle.planner.specs.View.{view_of}
use Rattle.display.specs.Display.{refusal_number}
use Rattle.display.proofs.Answers.{refusal_above}
use Rattle.planner.proofs.Outcomes.{add_refused, add_full, add_put}
use Rattle.planner.proofs.add.Goals as goal

pub returns-in_err-check_block : goal.returns-in_err-check_block
returns-in_err-check_block c =
    let why = c.in_err-check_block.field-0.0 in
    let p = err_from_is_err_and c.from_residual.result c.from_residual.ensures.1 in
    rw (p.1, p.2) (add_refused c.args.memory.now c.args.b c.told-memory (refusal_number why) (refusal_above why) c.in_err-check_block.ensures)

pub returns-then-memory-ge-PLACES : goal.returns-then-memory-ge-PLACES
unfolding view_of
returns-then-memory-ge-PLACES c =
    add_full c.args.memory.now c.args.b c.told-memory c.in_ok-check_block.ensures c.if-memory-ge-PLACES.true

pub put_last-requires : goal.put_last-requires
unfolding view_of
put_last-requires c = (sym c.in_ok-check_block.ensures, c.if-memory-ge-PLACES.false)

pub returns : goal.returns
unfolding view_of
returns c =
    add_put c.args.memory.now c.args.b c.told-memory c.put_last.new.memory c.in_ok-check_block.ensures c.if-memory-ge-PLACES.false c.put_last.ensures
