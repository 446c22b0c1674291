-- The number of a faulty line is that of its first faulty piece. From the laws of reading pieces.
use mathlib.Core.Path.{◌≡◌, refl, sym, ap, subst, ◌∙◌}
use mathlib.Core.Bool.{Bool, true, false, cond}
use mathlib.Core.List.{List, [], ◌∷◌, ◌++◌}
use Prim.Native.Nat.{ℕ, suc}
use native.Mathlib.Omega.{arith}
use lib.IntN.{ℤ}
use lib.ListN.{get_or}
use lib.Seq.{append_snoc}
use Rattle.display.specs.Display.{given, refused}
use Rattle.words.specs.Number.{number_in}
use Rattle.words.specs.Pieces.{Piece, word, stray, pieces_of}
use Rattle.words.specs.Meaning.{Faulty, FirstFault, Kept, badly_formed, not_listed, outside, repeated, slot_by}
use Rattle.words.specs.Words.{Scan, Words, filled, no_words, scan, slot_of, behind_words, with_number, with_pieces, with_slot, with_word, words_of}
use Rattle.words.proofs.WordReads.{next, pieces_kept, pieces_on, pieces_once, pieces_right, unlisted}
use Rattle.std.specs.Prelude.{Option, Some, None}

-- A word by its number, and by its slot.
module _ (c : ℕ) (n : List ℕ) (rest : List Piece) (w : Words) where
  with_number_lem : {m : Option ℤ} → number_in n ≡ m → with_pieces (word c n ∷ rest) w ≡ next rest w (with_number c m w)
  unfolding with_pieces with_word
  with_number_lem q = ap (λ (m : Option ℤ). next rest w (with_number c m w)) q

  with_slot_lem : {z : ℤ} {s : Option ℕ} → number_in n ≡ Some z → slot_of c z ≡ s → with_pieces (word c n ∷ rest) w ≡ next rest w (with_slot s z w)
  with_slot_lem {z} q r = with_number_lem q ∙ ap (λ (s : Option ℕ). next rest w (with_slot s z w)) r

  with_stands : (z : ℤ) (k : ℕ) {t : Bool} → number_in n ≡ Some z → slot_of c z ≡ Some k → get_or w.stands k false ≡ t
      → with_pieces (word c n ∷ rest) w ≡ next rest w (cond t (refused 12) (given (filled k z w)))
  with_stands z k q r s = with_slot_lem q r ∙ ap (λ (t : Bool). next rest w (cond t (refused 12) (given (filled k z w)))) s

  -- one whose slot stands already
  again : (k : ℕ) (m : Option ℤ) → number_in n ≡ m → slot_by c m ≡ Some k → get_or w.stands k false ≡ true → with_pieces (word c n ∷ rest) w ≡ scan 12 w
  again k None q r s = absurd (unlisted r)
  again k (Some z) q r s = with_stands z k q r s

-- A faulty piece behind the words of others.
faulty_is : (front rest : List Piece) (p : Piece) (n : ℕ) (w : Words) → Kept front w → Faulty front p n → (with_pieces (p ∷ rest) w).number ≡ n
unfolding with_pieces
faulty_is front rest p n w kept outside = refl
faulty_is front rest _ n w kept (badly_formed {letter} {numerals} q) = ap (λ (s : Scan). s.number) (with_number_lem letter numerals rest w q)
faulty_is front rest _ n w kept (not_listed {letter} {numerals} q r) = ap (λ (s : Scan). s.number) (with_slot_lem letter numerals rest w q r)
faulty_is front rest _ n w kept (repeated {letter} {numerals} i k q r) =
    ap (λ (s : Scan). s.number) (again letter numerals rest w k (number_in numerals) refl q (kept.stands i k r))

-- Pieces that are right, and a fault among those behind them.
search_on : (front rest : List Piece) (n : ℕ) → (with_pieces front no_words).number ≡ 0 → (with_pieces rest (with_pieces front no_words).words).number ≡ suc n
    → FirstFault (front ++ rest) (suc n)
unfolding with_pieces
search_on front [] n right e = absurd (omega (arith, e))
search_on front (stray b ∷ rest) n right e =
    record { front = front; piece = stray b; rest = rest; cut = refl; right = pieces_once front right; faulty = subst (Faulty front (stray b)) e outside }
search_on front (word c s ∷ rest) n right e = by_number_lem (number_in s) refl (λ f. search_on f rest n)
  where
    w : Words
    w = (with_pieces front no_words).words

    is : {r : Scan} → with_pieces (word c s ∷ rest) w ≡ r → r.number ≡ suc n
    is q = ap (λ (r : Scan). r.number) (sym q) ∙ e

    here : {m : ℕ} → Faulty front (word c s) m → m ≡ suc n → FirstFault (front ++ word c s ∷ rest) (suc n)
    here f q =
        record { front = front; piece = word c s; rest = rest; cut = refl; right = pieces_once front right; faulty = subst (Faulty front (word c s)) q f }

    More : Type 0
    More = (f : List Piece) → (with_pieces f no_words).number ≡ 0 → (with_pieces rest (with_pieces f no_words).words).number ≡ suc n → FirstFault (f ++ rest) (suc n)

    by_stands : (z : ℤ) (k : ℕ) (t : Bool) → number_in s ≡ Some z → slot_of c z ≡ Some k → get_or w.stands k false ≡ t → More
        → FirstFault (front ++ word c s ∷ rest) (suc n)
    by_stands z k true q r t more =
        let other = (pieces_kept front right).only k t in
        here (repeated other.0 k (ap (slot_by c) q ∙ r) other.1) (is (with_stands c s rest w z k q r t))
    by_stands z k false q r t more =
        let one : with_pieces (front ++ word c s ∷ []) no_words ≡ scan 0 (filled k z w) =
        pieces_on front (pieces_once front right) (word c s ∷ []) ∙ with_stands c s [] w z k q r t
        in
        subst (λ (l : List Piece). FirstFault l (suc n)) (append_snoc front (word c s) rest)
        (more (front ++ word c s ∷ []) (ap (λ (r : Scan). r.number) one)
        (ap (λ (r : Scan). (with_pieces rest r.words).number) one ∙ is (with_stands c s rest w z k q r t)))

    by_slot : (z : ℤ) (k : Option ℕ) → number_in s ≡ Some z → slot_of c z ≡ k → More → FirstFault (front ++ word c s ∷ rest) (suc n)
    by_slot z None q r more = here (not_listed q r) (is (with_slot_lem c s rest w q r))
    by_slot z (Some k) q r more = by_stands z k (get_or w.stands k false) q r refl more

    by_number_lem : (m : Option ℤ) → number_in s ≡ m → More → FirstFault (front ++ word c s ∷ rest) (suc n)
    by_number_lem None q more = here (badly_formed q) (is (with_number_lem c s rest w q))
    by_number_lem (Some z) q more = by_slot z (slot_of c z) q refl more

-- 12: any character but a space outside a word, or a word or repetition not listed; 13: a badly formed number; the first such place on a line
-- decides, 13 before 12 in one word.
module _ (line : List ℕ) (n : ℕ) where
  pub words_fault : FirstFault (pieces_of line) n → (words_of line).number ≡ n
  unfolding behind_words
  words_fault f =
      ap (λ (pieces : List Piece). (with_pieces pieces no_words).number) f.cut
      ∙ ap (λ (s : Scan). s.number) (pieces_on f.front f.right (f.piece ∷ f.rest))
      ∙ faulty_is f.front f.rest f.piece n (with_pieces f.front no_words).words (pieces_kept f.front (pieces_right f.front f.right)) f.faulty

  -- Every other number than 0 comes of such a place.
  pub words_faulty : (words_of line).number ≡ suc n → FirstFault (pieces_of line) (suc n)
  unfolding behind_words with_pieces
  words_faulty e = search_on [] (pieces_of line) n refl e
