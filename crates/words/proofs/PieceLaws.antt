-- The pieces of a line. From the definitions and the laws of leading bytes.
use mathlib.Core.Logic.{◌⊎◌, inl, inr}
use mathlib.Core.Path.{◌≡◌, refl, sym, ap, ◌∙◌}
use mathlib.Core.Bool.{Bool, true, false, cond}
use mathlib.Core.List.{List, [], ◌∷◌, ◌++◌, append_assoc, append-nil}
use Prim.Native.Nat.{ℕ, ◌≤◌}
use native.Mathlib.Omega.{arith}
use borrow.Author.Tests.{leb-true, le-leb, lt-leb, ne_eqb}
use lib.Dec.{leb, eqb}
use Rattle.text.specs.Text.{space}
use Rattle.arith.proofs.Tests.{both}
use Rattle.words.specs.Leading.{leading, behind}
use Rattle.words.proofs.LeadingLaws.{leading_yes, leading_no, behind_yes, behind_no}
use Rattle.words.specs.Pieces.{Kind, gap, letter, number, other, plus, minus, point, numeral, capital, kind_of, Piece, word, stray, Begun, none, begun, ended, pieces_from, pieces_of}

-- The pieces from a byte on, by its kind.
abbrev by : Kind → Begun → ℕ → List ℕ → List Piece
by gap w b line = ended w (pieces_from none line)
by letter w b line = ended w (pieces_from (begun b []) line)
by number none b line = stray b ∷ pieces_from none line
by number (begun c n) b line = pieces_from (begun c (n ++ b ∷ [])) line
by other w b line = ended w (stray b ∷ pieces_from none line)

pieces_by : (k : Kind) (w : Begun) (b : ℕ) (line : List ℕ) → kind_of b ≡ k → pieces_from w (b ∷ line) ≡ by k w b line
unfolding pieces_from
pieces_by gap w b line e = rw (e, pieces_from)
pieces_by letter w b line e = rw (e, pieces_from)
pieces_by number none b line e = rw (e, pieces_from)
pieces_by number (begun c n) b line e = rw (e, pieces_from)
pieces_by other w b line e = rw (e, pieces_from)

-- The kind of a byte that is no numeral is not that of one.
kind_apart : (b : ℕ) → numeral b ≡ false → kind_of b ≡ number → ⊥
kind_apart b h e = no (eqb b space) (capital b) (rw h at e)
  where
    no : (x y : Bool) → cond x gap (cond y letter other) ≡ number → ⊥
    no true y q = let z : ◌≡◌ {A = ℕ} 0 1 = cc in absurd (omega arith)
    no false true q = let z : ◌≡◌ {A = ℕ} 0 1 = cc in absurd (omega arith)
    no false false q = let z : ◌≡◌ {A = ℕ} 0 1 = cc in absurd (omega arith)

-- A byte that is no numeral ends the word that has begun.
ends : (c : ℕ) (n : List ℕ) (b : ℕ) (line : List ℕ) (k : Kind) → kind_of b ≡ k → numeral b ≡ false
    → pieces_from (begun c n) (b ∷ line) ≡ word c n ∷ pieces_of (b ∷ line)
ends c n b line gap e h = pieces_by gap (begun c n) b line e ∙ ap (λ (t : List Piece). word c n ∷ t) (sym (pieces_by gap none b line e))
ends c n b line letter e h = pieces_by letter (begun c n) b line e ∙ ap (λ (t : List Piece). word c n ∷ t) (sym (pieces_by letter none b line e))
ends c n b line number e h = absurd (kind_apart b h e)
ends c n b line other e h = pieces_by other (begun c n) b line e ∙ ap (λ (t : List Piece). word c n ∷ t) (sym (pieces_by other none b line e))

-- A word takes all signs, digits and points after its letter, and ends before the next byte.
word_from : (c : ℕ) (n s : List ℕ) → pieces_from (begun c n) s ≡ word c (n ++ leading numeral s) ∷ pieces_of (behind numeral s)
unfolding pieces_from
word_from c n [] = λ i. word c (sym (append-nil n) i) ∷ []
word_from c n (b ∷ t) = go (numeral b) refl (word_from c (n ++ b ∷ []) t)
  where
    go : (x : Bool) → numeral b ≡ x → pieces_from (begun c (n ++ b ∷ [])) t ≡ word c ((n ++ b ∷ []) ++ leading numeral t) ∷ pieces_of (behind numeral t)
        → pieces_from (begun c n) (b ∷ t) ≡ word c (n ++ leading numeral (b ∷ t)) ∷ pieces_of (behind numeral (b ∷ t))
    go true h more =
        pieces_by number (begun c n) b t (rw h) ∙ more
        ∙ (λ i. word c (append_assoc n (b ∷ []) (leading numeral t) i) ∷ pieces_of (behind numeral t))
        ∙ (λ i. word c (n ++ sym (leading_yes numeral b t h) i) ∷ pieces_of (sym (behind_yes numeral b t h) i))
    go false h more =
        ends c n b t (kind_of b) refl h ∙ (λ i. word c (sym (append-nil n) i) ∷ pieces_of (b ∷ t))
        ∙ (λ i. word c (n ++ sym (leading_no numeral b t h) i) ∷ pieces_of (sym (behind_no numeral b t h) i))

-- The kind of a space, of a capital and of any other byte that is no numeral.
kind_letter : (b : ℕ) → 65 ≤ b → b ≤ 90 → kind_of b ≡ letter
kind_letter b low high =
    rw (le-leb 48 b (omega arith), lt-leb b 57 (omega arith), ne_eqb b plus (λ e. omega arith), ne_eqb b minus (λ e. omega arith), ne_eqb b point (λ e. omega arith), ne_eqb b space (λ e. omega arith), le-leb 65 b low, le-leb b 90 high)

kind_stray : (k : Kind) (b : ℕ) → kind_of b ≡ k → (b ≡ space → ⊥) → capital b ≡ false → (k ≡ number) ⊎ (k ≡ other)
kind_stray k b e n c = go (numeral b) (eqb b space) (ne_eqb b space n) (sym e ∙ ap (λ (t : Bool). cond (numeral b) number (cond (eqb b space) gap (cond t letter other))) c)
  where
    go : (x y : Bool) → y ≡ false → k ≡ cond x number (cond y gap other) → (k ≡ number) ⊎ (k ≡ other)
    go true y f q = inl q
    go false true f q = absurd (differ f)
      where
        differ : true ≡ false → ⊥
        differ p = let z : ◌≡◌ {A = ℕ} 0 1 = cc in omega arith
    go false false f q = inr q

-- Where no word has begun: a space is skipped, a capital begins a word, and any other byte is outside one.
pub pieces_space : (b : ℕ) (s : List ℕ) → b ≡ space → pieces_of (b ∷ s) ≡ pieces_of s
pieces_space b s e = pieces_by gap none b s (ap kind_of e)

pub pieces_word : (b : ℕ) (s : List ℕ) → capital b ≡ true → pieces_of (b ∷ s) ≡ word b (leading numeral s) ∷ pieces_of (behind numeral s)
pieces_word b s e =
    let t = both (leb 65 b) (leb b 90) e in
    pieces_by letter none b s (kind_letter b (leb-true 65 b t.0) (leb-true b 90 t.1)) ∙ word_from b [] s

pub pieces_stray : (b : ℕ) (s : List ℕ) → (b ≡ space → ⊥) → capital b ≡ false → pieces_of (b ∷ s) ≡ stray b ∷ pieces_of s
pieces_stray b s n e = go (kind_stray (kind_of b) b refl n e)
  where
    go : (kind_of b ≡ number) ⊎ (kind_of b ≡ other) → pieces_of (b ∷ s) ≡ stray b ∷ pieces_of s
    go (inl k) = pieces_by number none b s k
    go (inr k) = pieces_by other none b s k
