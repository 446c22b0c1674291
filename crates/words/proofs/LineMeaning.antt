-- The lines of a text are what stands between its line feeds. From the definitions.
use mathlib.Core.Path.{◌≡◌, refl, sym, ap, subst, ◌∙◌}
use mathlib.Core.Bool.{Bool, true, false, cond, not}
use mathlib.Core.List.{List, [], ◌∷◌, ◌++◌}
use Prim.Native.Nat.{ℕ}
use borrow.Author.Tests.{eqb-true, not-true}
use lib.Dec.{eqb}
use Rattle.text.specs.Text.{line_feed}
use Rattle.words.specs.Lines.{in_front, in_line, lines_of}
use Rattle.words.specs.Meaning.{Each, joined, Plain, ends_line}
use Rattle.words.proofs.LineLaws.{lines_first}

-- A byte in front of the first line stands in front of all.
front_joined : (b c : ℕ) (text : List ℕ) → joined (in_front b (lines_of (c ∷ text))) ≡ b ∷ joined (lines_of (c ∷ text))
front_joined b c text =
    subst (λ (lines : List (List ℕ)). joined (in_front b lines) ≡ b ∷ joined lines) (sym (lines_first c text)) refl

-- Lines end in a line feed, the last perhaps without: the lines of a text, each with its line feed, are that text, or with one more line
-- feed where its last line has none.
pub lines_joined : (text : List ℕ) → joined (lines_of text) ≡ cond (ends_line text) text (text ++ line_feed ∷ [])
unfolding lines_of
lines_joined [] = refl
lines_joined (b ∷ []) = go (eqb b line_feed) refl
  where
    go : (x : Bool) → eqb b line_feed ≡ x
        → joined (elim x [ true ↦ [] ∷ [] | false ↦ (b ∷ []) ∷ [] ]) ≡ cond x (b ∷ []) (b ∷ line_feed ∷ [])
    go true e = λ i. sym (eqb-true b line_feed e) i ∷ []
    go false e = refl
lines_joined (b ∷ c ∷ text) = go (eqb b line_feed) refl (lines_joined (c ∷ text)) ∙ out (ends_line (c ∷ text))
  where
    go : (x : Bool) → eqb b line_feed ≡ x → joined (lines_of (c ∷ text)) ≡ cond (ends_line (c ∷ text)) (c ∷ text) (c ∷ text ++ line_feed ∷ [])
        → joined (elim x [ true ↦ [] ∷ lines_of (c ∷ text) | false ↦ in_front b (lines_of (c ∷ text)) ])
        ≡ b ∷ cond (ends_line (c ∷ text)) (c ∷ text) (c ∷ text ++ line_feed ∷ [])
    go true e more = λ i. sym (eqb-true b line_feed e) i ∷ more i
    go false e more = front_joined b c text ∙ ap (λ (s : List ℕ). b ∷ s) more

    out : (x : Bool) → b ∷ cond x (c ∷ text) (c ∷ text ++ line_feed ∷ []) ≡ cond x (b ∷ c ∷ text) (b ∷ c ∷ text ++ line_feed ∷ [])
    out true = refl
    out false = refl

-- No line has a line feed.
pub lines_plain : (text : List ℕ) → Plain (lines_of text)
unfolding lines_of
lines_plain [] = tt
lines_plain (b ∷ text) = go (eqb b line_feed) refl (lines_of text) (lines_plain text)
  where
    go : (x : Bool) → eqb b line_feed ≡ x → (lines : List (List ℕ)) → Plain lines → Plain (elim x [ true ↦ [] ∷ lines | false ↦ in_front b lines ])
    go true e lines more = (tt, more)
    go false e [] more = ((ap not e, tt), tt)
    go false e (line ∷ lines) more = ((ap not e, more.0), more.1)

-- Any lines without line feeds, each with its line feed, are read as these lines.
line_read : (line text : List ℕ) → Each in_line line → lines_of (line ++ line_feed ∷ text) ≡ line ∷ lines_of text
unfolding lines_of
line_read [] text plain = refl
line_read (b ∷ line) text plain =
    ap (λ (x : Bool). elim x [ true ↦ [] ∷ lines_of (line ++ line_feed ∷ text) | false ↦ in_front b (lines_of (line ++ line_feed ∷ text)) ]) (not-true (eqb b line_feed) plain.0)
    ∙ ap (in_front b) (line_read line text plain.1)

pub lines_read : (lines : List (List ℕ)) → Plain lines → lines_of (joined lines) ≡ lines
unfolding lines_of
lines_read [] plain = refl
lines_read (line ∷ lines) plain = line_read line (joined lines) plain.0 ∙ ap (λ (l : List (List ℕ)). line ∷ l) (lines_read lines plain.1)
