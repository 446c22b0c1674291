-- `host::state::move_to`: both coordinates are small.
use Rattle.host.proofs.Hosts.{move_fits}
use Rattle.host.proofs.state.move_to.Goals as goal

pub minus-requires : goal.minus-requires
minus-requires c =
    move_fits c.args.number c.coordinate_of.ensures c.value.ensures c.requires
