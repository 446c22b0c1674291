-- `report::counting::with_row`: the row's block, and the junction where it begins. From the laws of rows.
use Rattle.std.proofs.Common.{◌≡◌, ◌+◌, sym, ap, ◌∙◌, subst, arith}
use Rattle.profile.specs.Line.{number_at}
use Rattle.tapeplan.specs.Sheet.{measured_at}
use Rattle.tapeplan.specs.declared.Measured.{Measured}
use Rattle.report.specs.Rows.{block_figures, held_figures, held_from, row_figures}
use Rattle.report.specs.declared.Figures.{Figures}
use Rattle.report.proofs.Rows.{Room, rows_begin, rows_behind, rows_room}
use Rattle.report.proofs.counting.with_row.Goals as goal
use Rattle.report.proofs.counting.with_row.Goals.{After-row-row, After-with_block-g}

-- the row is read
module _ (c : After-row-row) where
  room : Room c.args.f
  room = subst Room (sym c.requires.0) (rows_room c.args.tape.sheet.now c.args.tape.plan.now (c.args.k + 1) c.args.k c.requires.1 (omega arith))

pub with_block-g-requires : goal.with_block-g-requires
with_block-g-requires c =
    let can = c.requires.1 in
    let row = c.row-row.ensures in (
      (room (goal.at.with_block-g-requires c).After-row-row).blocks,
      (room (goal.at.with_block-g-requires c).After-row-row).lengths,
      omega (arith, ap (λ (r : Measured). r.numbers.length) row, can.lengths c.args.k (omega arith)),
      omega (arith, ap (λ (r : Measured). r.numbers.reach) row, can.reaches c.args.k (omega arith)),
      can.speeds c.args.k (omega arith),
      can.speeds (c.args.k + 1) (omega arith),
    )

-- its block is counted
module _ (c : After-with_block-g) where
  -- the figures are those of the rows before it and of its block
  with_it : c.with_block-g.result ≡ block_figures (row_figures c.args.tape.sheet.now c.args.tape.plan.now c.args.k) (measured_at c.args.tape.sheet.now c.args.k).numbers (number_at c.args.tape.plan.now c.args.k) (number_at c.args.tape.plan.now (c.args.k + 1))
  with_it =
      c.with_block-g.ensures
      ∙ (λ i. block_figures (c.requires.0 i) (c.row-row.ensures i).numbers (number_at c.args.tape.plan.now c.args.k) (number_at c.args.tape.plan.now (c.args.k + 1)))

pub returns-then-k-eq0 : goal.returns-then-k-eq0
returns-then-k-eq0 c = with_it (goal.at.returns-then-k-eq0 c).After-with_block-g ∙ rows_begin c.args.tape.sheet.now c.args.tape.plan.now c.args.k c.if-k-eq0.true

pub with_held-requires : goal.with_held-requires
with_held-requires c =
    let held = (room (goal.at.with_held-requires c).After-row-row).held in
    let is = with_it (goal.at.with_held-requires c).After-with_block-g ∙ (λ i. block_figures (sym c.requires.0 i) (measured_at c.args.tape.sheet.now c.args.k).numbers (number_at c.args.tape.plan.now c.args.k) (number_at c.args.tape.plan.now (c.args.k + 1))) in (
      omega (arith, ap (λ (f : Figures). f.feed) is, held.0),
      omega (arith, ap (λ (f : Figures). f.corner) is, held.1),
      omega (arith, ap (λ (f : Figures). f.chord) is, held.2),
      omega (arith, ap (λ (f : Figures). f.reach) is, held.3),
    )

pub returns : goal.returns
returns c =
    c.with_held.ensures
    ∙ (λ i. held_figures (with_it (goal.at.returns c).After-with_block-g i) ((c.held_by.ensures ∙ (λ j. held_from (c.row-before.ensures j) (c.row-row.ensures j) (number_at c.args.tape.plan.now c.args.k))) i))
    ∙ rows_behind c.args.tape.sheet.now c.args.tape.plan.now c.args.k (omega (arith, c.if-k-eq0.false))
