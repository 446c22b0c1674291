-- `host::order`: the first field that is refused, else the add of the block.
use mathlib.Core.Path.{sym, subst}
use Rattle.host.specs.Fields.{Within}
use Rattle.host.proofs.Fields.{fields_read}
use Rattle.host.proofs.order.Goals as goal

pub add_read-requires : goal.add_read-requires
add_read-requires c =
    subst Within (sym c.read_fields-fields.ensures) (fields_read c.args.o c.args.offset)
