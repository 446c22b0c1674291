-- `client::two_blocks` meets its contract: what each check expects follows from the planner's promises by the line.
use mathlib.Core.List.{List, ◌∷◌, []}
use mathlib.Core.Path.{◌≡◌, refl, ap, ◌∙◌}
use Prim.Native.Nat.{ℕ}
use borrow.Author.Tests.{eq-eqb}
use lib.ListN.{get_or}
use Rattle.machine.specs.Checks.{greatest_move, block_refusal}
use Rattle.line.specs.Blocks.{line_after}
use Rattle.client.specs.Work.{line_of_two}
use Rattle.client.proofs.Worked.{ahead, held_two, worked}
use Rattle.client.proofs.two_blocks.Goals as goal
use Rattle.client.proofs.two_blocks.Goals.{After-shown}

-- the list that is shown
listed : (c : After-shown) → c.shown.new.list ≡ 0 ∷ 400_000_000 ∷ 0 ∷ []
unfolding line_after greatest_move block_refusal
listed c =
    ((c.shown.ensures.line (line_of_two ahead ahead)
    (held_two ahead ahead c.limits_m.ensures c.block.ensures c.block-2.ensures c.fresh-made.ensures c.add-one.ensures c.add-two.ensures)
    ).fits refl).1
    ∙ worked.straight

pub expect-requires : goal.expect-requires
expect-requires c = eq-eqb _ _ (ap (λ (l : List ℕ). get_or l 0 0) (listed c.before))

pub expect-requires-2 : goal.expect-requires-2
expect-requires-2 c = eq-eqb _ _ (ap (λ (l : List ℕ). get_or l 1 0) (listed c.before.before))

pub expect-requires-3 : goal.expect-requires-3
expect-requires-3 c = eq-eqb _ _ (ap (λ (l : List ℕ). get_or l 2 0) (listed c.before.before.before))
