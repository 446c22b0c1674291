-- `order_text::write_point`: the patterns of the host's point, from `coordinate_number` and `point_wrote`.
use mathlib.Core.Path.{ap, subst}
use lib.ListN.{get_or}
use Rattle.given_text.specs.Given.{WroteLine}
use Rattle.host.specs.declared.orders.Point.{Point}
use Rattle.order_text.specs.Texts.{point_text}
use Rattle.order_text.proofs.Points.{coordinate_number, point_wrote}
use borrow.Author.Rules.{rules}
use Rattle.order_text.proofs.write_point.Goals as goal

pub bits_of-requires : goal.bits_of-requires
bits_of-requires c = coordinate_number (get_or c.args.host.now 0 0) (ap (λ (p : Point). p.x) c.position-p.ensures)

pub bits_of-requires-2 : goal.bits_of-requires-2
bits_of-requires-2 c =
    coordinate_number (get_or c.args.host.now 1 0) (ap (λ (p : Point). p.y) c.position-p.ensures)

pub bits_of-requires-3 : goal.bits_of-requires-3
bits_of-requires-3 c =
    coordinate_number (get_or c.args.host.now 2 0) (ap (λ (p : Point). p.z) c.position-p.ensures)

pub returns : goal.returns
returns c =
    subst (λ (p : Point). WroteLine (point_text p) c.args.text.now c.args.at c.behind.result c.put_line.new.out) c.position-p.ensures
    (point_wrote c.position-p.result c.bits_of.ensures c.bits_of-2.ensures c.bits_of-3.ensures (search rules) (search rules) (search rules) c.requires c.put_line.ensures c.behind.ensures)
