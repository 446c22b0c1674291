-- `ngctape::write_tape` is safe: what was stored lies in the tape.
use Prim.Native.Nat.{zero-le}
use Rattle.text.proofs.Store.{within}
use Rattle.ngctape.proofs.write_tape.Goals as goal

pub say-requires : goal.say-requires
say-requires c = within c.text_tape-end.ensures zero-le
