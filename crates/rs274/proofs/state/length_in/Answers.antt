-- `rs274::state::length_in` meets its contract, from the unit.
use Rattle.std.proofs.Common.{◌≡◌, ◌*◌, ◌/◌, ◌∙◌, ap, ℕ, pos, w64, to_z, arith}
use Rattle.std.proofs.lemmas.Int.{ints}
use Rattle.rs274.proofs.Positions.{length_back, unit_small}
use Rattle.rs274.proofs.state.length_in.Goals as goal

pub returns : goal.returns
returns c =
    let small = unit_small c.args.inches in
    let is : to_z w64 (c.unit_of.result * 100 / 10_000) ≡ pos (c.unit_of.result * 100 / 10_000) = grind (arith, ints) in
    length_back c.args.inches c.args.v _ c.requires (is ∙ ap (λ (n : ℕ). pos (n * 100 / 10_000)) c.unit_of.ensures)
