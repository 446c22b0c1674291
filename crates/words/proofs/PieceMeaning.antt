-- The pieces of a line are its bytes but the spaces, and a word is as long as document 02 says. From the definitions.
use mathlib.Core.Path.{◌≡◌, refl, ap, ◌∙◌}
use mathlib.Core.Bool.{Bool, true, false, cond}
use mathlib.Core.List.{List, [], ◌∷◌, ◌++◌, append_assoc}
use Prim.Native.Nat.{ℕ}
use borrow.Author.Tests.{eqb-true}
use lib.Dec.{eqb}
use Rattle.text.specs.Text.{space}
use Rattle.words.specs.Pieces.{Kind, gap, letter, number, other, capital, numeral, kind_of, Piece, word, stray, Begun, none, begun, ended, pieces_from, pieces_of}
use Rattle.words.specs.Meaning.{Each, Outside, bytes_of, unspaced}
use Rattle.words.proofs.LeadingMeaning.{leading_cut, behind_cut}
use Rattle.words.proofs.PieceLaws.{pieces_word}

-- A space alone is a gap.
abbrev is_gap : Kind → Bool
is_gap gap = true
is_gap letter = false
is_gap number = false
is_gap other = false

gap_space : (b : ℕ) → is_gap (kind_of b) ≡ eqb b space
gap_space b = go (eqb b space) refl
  where
    other_kind : (x y : Bool) → is_gap (cond x number (cond y letter other)) ≡ false
    other_kind true y = refl
    other_kind false true = refl
    other_kind false false = refl

    go : (t : Bool) → eqb b space ≡ t → is_gap (kind_of b) ≡ t
    go true e = ap (λ (c : ℕ). is_gap (kind_of c)) (eqb-true b space e)
    go false e =
        ap (λ (t : Bool). is_gap (cond (numeral b) number (cond t gap (cond (capital b) letter other)))) e ∙ other_kind (numeral b) (capital b)

-- The bytes of the word that has begun come first.
abbrev bytes_begun : Begun → List ℕ
bytes_begun none = []
bytes_begun (begun c n) = c ∷ n

bytes_ended : (w : Begun) (rest : List Piece) → bytes_of (ended w rest) ≡ bytes_begun w ++ bytes_of rest
bytes_ended none rest = refl
bytes_ended (begun c n) rest = refl

bytes_from : (w : Begun) (line : List ℕ) → bytes_of (pieces_from w line) ≡ bytes_begun w ++ unspaced line
unfolding pieces_from unspaced
bytes_from w [] = bytes_ended w []
bytes_from w (b ∷ line) = go (kind_of b) w (λ v. bytes_from v line) ∙ ap (λ (t : Bool). bytes_begun w ++ elim t [ true ↦ unspaced line | false ↦ b ∷ unspaced line ]) (gap_space b)
  where
    go : (k : Kind) (w : Begun) → ((v : Begun) → bytes_of (pieces_from v line) ≡ bytes_begun v ++ unspaced line)
        → bytes_of (elim k [
          | gap ↦ ended w (pieces_from none line)
          | letter ↦ ended w (pieces_from (begun b []) line)
          | number ↦ elim w [ none ↦ stray b ∷ pieces_from none line | begun c n ↦ pieces_from (begun c (n ++ b ∷ [])) line ]
          | other ↦ ended w (stray b ∷ pieces_from none line)
        ])
        ≡ bytes_begun w ++ elim (is_gap k) [ true ↦ unspaced line | false ↦ b ∷ unspaced line ]
    go gap w more = bytes_ended w (pieces_from none line) ∙ ap (λ (s : List ℕ). bytes_begun w ++ s) (more none)
    go letter w more = bytes_ended w (pieces_from (begun b []) line) ∙ ap (λ (s : List ℕ). bytes_begun w ++ s) (more (begun b []))
    go number none more = ap (λ (s : List ℕ). b ∷ s) (more none)
    go number (begun c n) more = more (begun c (n ++ b ∷ [])) ∙ ap (λ (s : List ℕ). c ∷ s) (append_assoc n (b ∷ []) (unspaced line))
    go other w more = bytes_ended w (stray b ∷ pieces_from none line) ∙ ap (λ (s : List ℕ). bytes_begun w ++ b ∷ s) (more none)

-- Spaces before, between and after words are skipped, and nothing else: the pieces of a line are its bytes but the spaces, in their order.
pub pieces_unspaced : (line : List ℕ) → bytes_of (pieces_of line) ≡ unspaced line
pieces_unspaced line = bytes_from none line

-- A word is a capital and all signs, digits and points after it: it ends before the first byte that is none.
pub word_ends : (c : ℕ) (numerals rest : List ℕ) → capital c ≡ true → Each numeral numerals → Outside numeral rest
    → pieces_of (c ∷ numerals ++ rest) ≡ word c numerals ∷ pieces_of rest
word_ends c numerals rest e each out =
    pieces_word c (numerals ++ rest) e
    ∙ (λ i. word c (leading_cut numeral numerals rest each out i) ∷ pieces_of (behind_cut numeral numerals rest each out i))
