-- The lines of a text. From the definitions.
use mathlib.Core.Path.{◌≡◌, refl, sym, ap, ◌∙◌}
use mathlib.Core.Bool.{Bool, true, false, not}
use mathlib.Core.List.{List, ◌∷◌, []}
use Prim.Native.Nat.{ℕ}
use lib.Dec.{eqb}
use lib.ListN.{drop}
use Rattle.text.specs.Text.{line_feed}
use Rattle.words.proofs.LeadingLaws.{leading_yes, leading_no, behind_yes, behind_no}
use Rattle.words.specs.Lines.{in_front, lines_of, in_line, first_line, behind_line}

-- A byte in front of a text: it ends an empty line, or begins the first.
front : (b : ℕ) (text : List ℕ) → in_front b (lines_of text) ≡ (b ∷ first_line text) ∷ lines_of (behind_line text)
    → lines_of (b ∷ text) ≡ first_line (b ∷ text) ∷ lines_of (behind_line (b ∷ text))
unfolding lines_of
front b text e = go (eqb b line_feed) refl
  where
    go : (x : Bool) → eqb b line_feed ≡ x
        → elim x [ true ↦ [] ∷ lines_of text | false ↦ in_front b (lines_of text) ] ≡ first_line (b ∷ text) ∷ lines_of (behind_line (b ∷ text))
    go true q = λ i. sym (leading_no in_line b text (ap not q)) i ∷ lines_of (drop 1 (sym (behind_no in_line b text (ap not q)) i))
    go false q = e ∙ (λ i. sym (leading_yes in_line b text (ap not q)) i ∷ lines_of (drop 1 (sym (behind_yes in_line b text (ap not q)) i)))

alone : (b : ℕ) → in_front b (lines_of []) ≡ (b ∷ first_line []) ∷ lines_of (behind_line [])
unfolding lines_of
alone b = refl

-- A text that is not empty has a first line, and the lines of what is behind it.
pub lines_first : (b : ℕ) (text : List ℕ) → lines_of (b ∷ text) ≡ first_line (b ∷ text) ∷ lines_of (behind_line (b ∷ text))
lines_first b [] = front b [] (alone b)
lines_first b (c ∷ text) = front b (c ∷ text) (ap (in_front b) (lines_first c text))
