-- `text::line_fits`: room for the numbers behind the words, from `length_line`.
use mathlib.Core.Path.{◌∙◌}
use Prim.Native.Nat.{◌-◌}
use native.Mathlib.Omega.{arith}
use lib.ListN.{length}
use borrow.Author.Tests.{lt-leb}
use Rattle.text.specs.Text.{spaced, line}
use Rattle.text.proofs.Store.{same_test}
use Rattle.text.proofs.Lines.{length_line}
use Rattle.text.proofs.line_fits.Goals as goal

pub returns-then-room-words : goal.returns-then-room-words
returns-then-room-words c =
    let s = c.args in
    rw (lt-leb (length (line s.words.now s.numbers.now)) s.room (omega (arith, length_line s.words.now s.numbers.now)))

pub returns : goal.returns
returns c =
    let s = c.args in
    let size = length_line s.words.now s.numbers.now in
    c.spaced_fits.ensures
    ∙ same_test (length (spaced s.numbers.now)) (s.room - length s.words.now - 1) (length (line s.words.now s.numbers.now)) s.room
    (λ h. omega arith) (λ h. omega arith)
