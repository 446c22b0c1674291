-- `host::fresh`: four zeros.
use mathlib.Core.Path.{refl}
use Rattle.fields.specs.Signed.{bits_of}
use Rattle.host.proofs.fresh.Goals as goal

pub returns : goal.returns
unfolding bits_of
returns c = refl
