-- `replay_text::write_end`: the second line behind the first, from `both_lines`.
use native.Mathlib.Omega.{arith}
use Rattle.replay_text.proofs.Lines.{both_lines}
use borrow.Author.Rules.{rules}
use Rattle.replay_text.proofs.write_end.Goals as goal

pub returns : goal.returns
returns c =
    both_lines c.args.told (search rules) c.args.plan.now (λ i. omega (arith, c.type_inv.plan i)) c.requires (search rules)
    c.put_held.ensures c.behind-end.ensures c.put_plan.ensures c.behind.ensures
