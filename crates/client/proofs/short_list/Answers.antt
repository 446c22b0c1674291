-- `client::short_list` meets its contract: the list is not one longer than the line, so 11 answers and it stays.
use mathlib.Core.List.{List, ◌∷◌, []}
use mathlib.Core.Path.{◌≡◌, sym, ap, ◌∙◌}
use Prim.Native.Nat.{ℕ}
use borrow.Author.Tests.{eq-eqb}
use lib.ListN.{get_or}
use Rattle.line.specs.Answers.{refused, done_means}
use Rattle.client.proofs.Worked.{ahead, still, held_one, short_shown, shown_refused, short_number}
use Rattle.client.proofs.short_list.Goals as goal
use Rattle.client.proofs.short_list.Goals.{After-shown}

-- what is known of the planner that shows
module _ (c : After-shown) where
  -- what it answers and leaves
  short : (done_means c.shown.result ≡ refused 11) × (c.shown.new.list ≡ 7 ∷ [])
  short =
      short_shown (held_one ahead still c.limits_m.ensures c.block.ensures c.fresh-made.ensures c.add-one.ensures)
      c.shown.ensures

pub expect-requires : goal.expect-requires
expect-requires c = absurd (shown_refused (short c.before.before).0 (sym (ap done_means c.in-Ok.is)))

pub expect-requires-in-Err : goal.expect-requires-in-Err
expect-requires-in-Err c =
    eq-eqb _ _ (c.refusal_number.ensures ∙ short_number _ (short c.before.before.before).0 (sym (ap done_means c.in-Err.is)))

pub expect-requires-2 : goal.expect-requires-2
expect-requires-2 c = eq-eqb _ _ (ap (λ (l : List ℕ). get_or l 0 0) (short c.before.before).1)
