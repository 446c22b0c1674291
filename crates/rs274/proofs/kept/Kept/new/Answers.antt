-- `rs274::kept::Kept::new` meets its contract: no bytes are the records of no blocks.
use Rattle.std.proofs.Common.{ℕ, refl, arith}
use Rattle.std.proofs.lemmas.List.{length-replicate}
use Rattle.rs274.specs.Answers.{records_of}
use Rattle.rs274.proofs.kept.Kept.new.Goals as goal

pub returns : goal.returns
unfolding records_of
returns c = record { sized = length-replicate {A = ℕ} 32_768 0; counted = refl; few = omega arith; stored = refl }
