-- `words::scan::read_words` meets its contract: what is still to be read, behind the words that stand, leads to the same end.
use Rattle.std.proofs.Common.{◌≡◌, ◌∙◌, ℕ, List, [], ◌∷◌, length, refl, sym, ap, arith}
use borrow.Author.Tests.{eqb-true}
use Rattle.words.specs.Pieces.{pieces_of, pieces_from}
use Rattle.words.specs.Words.{Scan, Words, scan, behind_words, with_pieces}
use Rattle.words.proofs.scan.read_words.Goals as goal

pub loop-rest-init : goal.loop-rest-init
unfolding behind_words
loop-rest-init c = (c.told-words, refl)

-- nothing is left to read
all_read : (s : List ℕ) (w : Words) → length s ≡ 0 → with_pieces (pieces_of s) w ≡ scan 0 w
unfolding with_pieces pieces_from
all_read [] w e = refl
all_read (b ∷ s) w e = absurd (omega arith)

pub returns : goal.returns
returns c =
    let l = c.loop-rest in
    let none = eqb-true (length l.rest.now) 0 (sym c.is_empty.ensures ∙ c.loop-rest-test.false) in
    let end = sym l.invariant.1 ∙ all_read l.rest.now _ none in
    record { number = sym (ap (λ (s : Scan). s.number) end); words = sym (ap (λ (s : Scan). s.words) end); sized = l.invariant.0 }
