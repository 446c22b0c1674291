-- `planner::ring::new_junction`: the junction between the last block and the new one, from `junction_is`.
use Rattle.std.proofs.Common.{mod-lt, lit<, eq-eqb}
use Rattle.planner.specs.View.{place_from, view_of}
use Rattle.planner.proofs.Blocks.{junction_is, moves_in}
use Rattle.planner.proofs.ring.new_junction.Goals as goal

pub returns-then-count-eq0 : goal.returns-then-count-eq0
unfolding view_of
returns-then-count-eq0 c = simp (eq-eqb _ _ c.if-count-eq0.true)

pub junction_from-requires : goal.junction_from-requires
junction_from-requires c =
    let held = place_from c.args.memory.now c.place-at.result.base in
    record {
      jump_below = c.requires.0;
      first_length = rw c.cut_numbers_in-held.ensures (mod-lt held.length (lit< tt));
      second_length = c.requires.1;
      first_moves = rw c.cut_block_in-before.ensures (moves_in held);
      second_moves = c.requires.2;
    }

pub returns : goal.returns
unfolding view_of
returns c =
    let a = c.args in
    junction_is a.memory.now c.place-at.result.base a.jump a.b a.n c.junction_from.result c.cut_block_in-before.result c.cut_numbers_in-held.result
    c.place-at.ensures c.if-count-eq0.false c.cut_block_in-before.ensures c.cut_numbers_in-held.ensures c.junction_from.ensures
