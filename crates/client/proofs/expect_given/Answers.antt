-- `client::expect_given` meets its contract: each check is a part of what is required.
use borrow.Author.Rules.{rules}
use borrow.Author.Tests.{eq-eqb}
use Rattle.client.proofs.expect_given.Goals as goal

pub expect-requires : goal.expect-requires
expect-requires c = search (rules, eq-eqb)

pub expect-requires-2 : goal.expect-requires-2
expect-requires-2 c = search (rules, eq-eqb)

pub expect-requires-3 : goal.expect-requires-3
expect-requires-3 c = search (rules, eq-eqb)

pub expect-requires-4 : goal.expect-requires-4
expect-requires-4 c = search (rules, eq-eqb)

pub expect-requires-5 : goal.expect-requires-5
expect-requires-5 c = search (rules, eq-eqb)
