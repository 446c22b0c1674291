-- `planner::ring::put_last`: the place, the count and the stairs together, from `put_is`.
use Rattle.std.proofs.Common.{◌∙◌, arith}
use Rattle.machine.proofs.Bounds.{short}
use Rattle.machine.proofs.Junctions.{short_moves}
use Rattle.machine.specs.Lists.{limits_from}
use Rattle.machine.specs.Numbers.{numbers_of}
use Rattle.planner.specs.View.{view_of}
use Rattle.planner.proofs.Blocks.{limits_below, put_is}
use Rattle.planner.proofs.ring.put_last.Goals as goal
use Rattle.planner.proofs.ring.put_last.Goals.{After-store_place}

pub numbers-n-requires : goal.numbers-n-requires
numbers-n-requires c =
    (rw c.machine_in-m.ensures (limits_below (limits_from c.args.memory.now)), c.requires.0)

pub new_junction-junction-requires : goal.new_junction-junction-requires
unfolding numbers_of
new_junction-junction-requires c =
    let b = c.args.b in
    (rw c.machine_in-m.ensures (limits_below (limits_from c.args.memory.now)).2, rw c.numbers-n.ensures (omega (arith, short b c.requires.0)), short_moves b c.requires.0)

pub overflow_add-memory : goal.overflow_add-memory
unfolding view_of
overflow_add-memory c = record { fits = omega (arith, c.requires.1) }

pub returns : goal.returns
unfolding view_of
returns c =
    record {
      sized = c.climb.ensures.sized;
      view =
          c.climb.ensures.view
          ∙ put_is c.args.memory.now c.store_place.new.memory c.machine_in-m.result c.args.b c.numbers-n.result c.new_junction-junction.result c.place-at.result.base
          c.told-memory c.machine_in-m.ensures c.numbers-n.ensures c.new_junction-junction.ensures c.place-at.ensures c.store_place.ensures;
    }
