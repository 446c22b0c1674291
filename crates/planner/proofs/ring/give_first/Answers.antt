-- `planner::ring::give_first`: what is given out and what is held after it, from `given_is` and `taken_is`.
use Rattle.std.proofs.Common.{◌≡◌, ◌-◌, length, ap, ◌∙◌, arith, length-set}
use Rattle.profile.specs.Passes.{exit_from}
use Rattle.machine.specs.declared.Numbers.{Numbers}
use Rattle.line.specs.Ring.{start_in, lowered}
use Rattle.planner.specs.Calls.{Memory}
use Rattle.planner.specs.View.{memory_size, place_from, view_of}
use Rattle.planner.proofs.Blocks.{given_is, taken_is}
use Rattle.planner.proofs.ring.give_first.Goals as goal
use Rattle.planner.proofs.ring.give_first.Goals.{After-lower}

-- the places behind each call, from the one where the stairs are lowered
module _ (c : After-lower) where
  lower_sized : length c.lower.new.memory ≡ memory_size
  lower_sized = c.lower.ensures.sized

  leaves : c.exit_in-exit.result ≡ exit_from (view_of c.args.memory.now).committed (place_from c.args.memory.now c.place-at.result.base).reach
      (start_in (view_of c.args.memory.now) - (place_from c.args.memory.now c.place-at.result.base).reach)
  unfolding view_of
  leaves =
      c.exit_in-exit.ensures
      ∙ ap (λ (n : Numbers). exit_from (view_of c.args.memory.now).committed n.reach (start_in (view_of c.args.memory.now) - n.reach)) c.numbers_in-n.ensures

  low : Memory (lowered (view_of c.args.memory.now) (place_from c.args.memory.now c.place-at.result.base).reach) c.lower.new.memory
  low = record {
    sized = c.lower.ensures.sized;
    view = c.lower.ensures.view ∙ ap (λ (n : Numbers). lowered (view_of c.args.memory.now) n.reach) c.numbers_in-n.ensures;
  }

pub overflow_sub-memory : goal.overflow_sub-memory
unfolding view_of
overflow_sub-memory c = omega (arith, c.requires)

pub returns : goal.returns
unfolding view_of
returns c =
    let m = c.args.memory.now in
    let at = c.place-at.result.base in
    let exit = c.exit_in-exit.result in
    record {
      given =
          given_is m at exit c.place-at.ensures (leaves (goal.at.returns c).After-lower) c.given_between.result c.block_in-block.result c.numbers_in-n.result
          c.block_in-block.ensures c.numbers_in-n.ensures c.given_between.ensures;
      held = record {
        sized = simp length-set (lower_sized (goal.at.returns c).After-lower);
        view = taken_is m at exit c.place-at.ensures (leaves (goal.at.returns c).After-lower) c.lower.new.memory (low (goal.at.returns c).After-lower);
      };
    }
