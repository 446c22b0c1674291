-- `text::put_named`: the room is tested, from `stored` and `no_room`.
use mathlib.Core.Path.{sym, ◌∙◌}
use native.Mathlib.Omega.{arith}
use borrow.Author.Tests.{leb-true, leb-false}
use Rattle.text.proofs.Store.{stored, no_room}
use Rattle.text.proofs.Lines.{named_line}
use Rattle.text.proofs.put_named.Goals as goal

pub returns-then-room-name : goal.returns-then-room-name
returns-then-room-name c = no_room _ _ _ (omega (arith, named_line c.args.words.now c.args.numbers.now c.args.name.now))

pub store_named-requires : goal.store_named-requires
store_named-requires c = omega (arith, named_line c.args.words.now c.args.numbers.now c.args.name.now, leb-true _ _ (sym c.line_fits.ensures ∙ c.if-line_fits.true))

pub returns-then-line_fits : goal.returns-then-line_fits
returns-then-line_fits c =
    stored _ _ _ (omega (arith, named_line c.args.words.now c.args.numbers.now c.args.name.now, leb-true _ _ (sym c.line_fits.ensures ∙ c.if-line_fits.true))) c.store_named.ensures

pub returns-else-line_fits : goal.returns-else-line_fits
returns-else-line_fits c =
    no_room _ _ _ (omega (arith, named_line c.args.words.now c.args.numbers.now c.args.name.now, leb-false _ _ (sym c.line_fits.ensures ∙ c.if-line_fits.false)))
