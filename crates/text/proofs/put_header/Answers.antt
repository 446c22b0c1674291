-- `text::put_header`: the bytes of the definition.
use Rattle.text.specs.Text.{header}
use borrow.Author.Rules.{rules}
use Rattle.text.proofs.put_header.Goals as goal

pub returns : goal.returns
unfolding header
returns c = search rules
