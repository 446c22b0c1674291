-- `host::state::coordinate_double`: 32 bits fit a double.
use Rattle.host.proofs.Hosts.{double_fits}
use Rattle.host.proofs.state.coordinate_double.Goals as goal

pub whole-requires : goal.whole-requires
whole-requires c = double_fits c.args.number c.coordinate_of.ensures
