-- `rs274::state::modal_after` meets its contract, field by field.
use mathlib.Core.Bool.{cond}
use mathlib.Core.Path.{◌∙◌}
use Rattle.words.specs.Words.{is_value, words_in}
use Rattle.rs274.specs.Modal.{feed_of}
use Rattle.rs274.proofs.Positions.{modal_is, of_slot, place_fits, slot_small}
use Rattle.rs274.specs.Modal.{position_of}
use Rattle.arith.proofs.SignedLaws.{read_back}
use Rattle.rs274.proofs.state.modal_after.Goals as goal

pub position_of-requires : goal.position_of-requires
position_of-requires c = (place_fits c.args.m.x c.requires.1.x, slot_small c.args.words.now 4 c.requires.0)

pub position_of-requires-2 : goal.position_of-requires-2
position_of-requires-2 c = (place_fits c.args.m.y c.requires.1.y, slot_small c.args.words.now 5 c.requires.0)

pub position_of-requires-3 : goal.position_of-requires-3
position_of-requires-3 c = (place_fits c.args.m.z c.requires.1.z, slot_small c.args.words.now 6 c.requires.0)

pub feed_after-requires : goal.feed_after-requires
feed_after-requires c = slot_small c.args.words.now 7 c.requires.0

pub returns : goal.returns
returns c =
    let m = c.args.m in
    let l = c.args.words.now in
    let inches = c.chosen-inches.result in
    let incremental = c.chosen-incremental.result in
    modal_is m (words_in l) c.requires.0 c.requires.1 inches incremental
    (c.chosen-inches.ensures ∙ of_slot l 1 (λ t z. cond t (is_value 200_000 z) m.inches))
    (c.chosen-incremental.ensures ∙ of_slot l 2 (λ t z. cond t (is_value 910_000 z) m.incremental))
    c.chosen.result c.position_of.result c.position_of-2.result c.position_of-3.result c.feed_after.result
    (c.chosen.ensures ∙ of_slot l 0 (λ t z. cond t (is_value 0 z) m.rapid))
    (c.position_of.ensures ∙ of_slot l 4 (position_of inches incremental (read_back m.x)))
    (c.position_of-2.ensures ∙ of_slot l 5 (position_of inches incremental (read_back m.y)))
    (c.position_of-3.ensures ∙ of_slot l 6 (position_of inches incremental (read_back m.z)))
    (c.feed_after.ensures ∙ of_slot l 7 (λ t z. cond t (feed_of inches z) m.feed))
