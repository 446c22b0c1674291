-- The words of a line from the left. From the laws of its pieces.
use mathlib.Core.Path.{◌≡◌, sym, ap, ◌∙◌}
use mathlib.Core.Bool.{true, false}
use mathlib.Core.List.{List, ◌∷◌}
use Prim.Native.Nat.{ℕ, ◌+◌, ◌≤◌, ◌<◌}
use native.Mathlib.Omega.{arith}
use lib.ListN.{length, take, drop, get_or, length-drop}
use lib.Seq.{drop-cons, drop-drop}
use Rattle.display.specs.Display.{refusal_number, Outcome, given, refused}
use Rattle.display.specs.declared.Refusal.{Refusal}
use Rattle.text.specs.Text.{space}
use Rattle.words.specs.Leading.{leading, behind}
use Rattle.words.specs.Pieces.{Piece, capital, numeral, pieces_of}
use Rattle.words.specs.Steps.{Puts}
use Rattle.words.specs.Words.{Words, Scan, scan, with_word, with_pieces}
use Rattle.words.proofs.LeadingLaws.{take_leading, drop_leading, length_leading}
use Rattle.words.proofs.PieceLaws.{pieces_space, pieces_word, pieces_stray}
use Rattle.std.specs.Prelude.{Ok, Err}

-- A line's next byte, and the numerals behind it where it is a capital, behind words that are right.
module _ (w : Words) (s : List ℕ) (h : 0 < length s) where
  cut : s ≡ get_or s 0 0 ∷ drop 1 s
  cut = drop-cons s 0 0 h

  abbrev b : ℕ
  b = get_or s 0 0

  abbrev leads : List Piece → Scan
  leads pieces = with_pieces pieces w

  pub step_space : b ≡ space → with_pieces (pieces_of (drop 1 s)) w ≡ with_pieces (pieces_of s) w
  step_space e = ap leads (sym (pieces_space b (drop 1 s) e)) ∙ ap (λ (l : List ℕ). leads (pieces_of l)) (sym cut)

  pub step_stray : (b ≡ space → ⊥) → capital b ≡ false → with_pieces (pieces_of s) w ≡ scan 12 w
  unfolding with_pieces
  step_stray n e = ap (λ (l : List ℕ). leads (pieces_of l)) cut ∙ ap leads (pieces_stray b (drop 1 s) n e)

  module _ (e : capital b ≡ true) (n : ℕ) (count : n ≡ length (leading numeral (drop 1 s))) where
    numerals : take n (drop 1 s) ≡ leading numeral (drop 1 s)
    numerals = ap (λ (k : ℕ). take k (drop 1 s)) count ∙ take_leading numeral (drop 1 s)

    rest : drop (n + 1) s ≡ behind numeral (drop 1 s)
    rest = ap (λ (k : ℕ). drop k s) (one n) ∙ sym (drop-drop n 1 s) ∙ ap (λ (k : ℕ). drop k (drop 1 s)) count ∙ drop_leading numeral (drop 1 s)
      where
        one : (n : ℕ) → n + 1 ≡ 1 + n
        one n = omega arith

    -- what the word and the pieces behind it lead to
    abbrev follow : Outcome ℕ Words → Scan
    follow o = elim o [ given v ↦ with_pieces (pieces_of (behind numeral (drop 1 s))) v | refused k ↦ scan k w ]

    leads_word : {o : Outcome ℕ Words} → with_word b (take n (drop 1 s)) w ≡ o → with_pieces (pieces_of s) w ≡ follow o
    unfolding with_pieces
    leads_word {o} q =
        ap (λ (l : List ℕ). leads (pieces_of l)) cut ∙ ap leads (pieces_word b (drop 1 s) e)
        ∙ ap follow (ap (λ (l : List ℕ). with_word b l w) (sym numerals) ∙ q)

    pub step_word : {v : Words} → with_word b (take n (drop 1 s)) w ≡ given v → with_pieces (pieces_of (drop (n + 1) s)) v ≡ with_pieces (pieces_of s) w
    step_word {v} q = ap (λ (l : List ℕ). with_pieces (pieces_of l) v) rest ∙ sym (leads_word q)

    pub step_faulty : {k : ℕ} → with_word b (take n (drop 1 s)) w ≡ refused k → with_pieces (pieces_of s) w ≡ scan k w
    step_faulty q = leads_word q

    -- by what putting the word answers
    pub step_passed : (after : Words) (o : Outcome ℕ Words) → with_word b (take n (drop 1 s)) w ≡ o → Puts o w (Ok tt) after
        → with_pieces (pieces_of (drop (n + 1) s)) after ≡ with_pieces (pieces_of s) w
    step_passed after (given v) q p = ap (with_pieces (pieces_of (drop (n + 1) s))) p ∙ step_word q
    step_passed after (refused k) q p = absurd p

    pub step_refused : (why : Refusal) (after : Words) (o : Outcome ℕ Words) → with_word b (take n (drop 1 s)) w ≡ o → Puts o w (Err why) after
        → with_pieces (pieces_of s) w ≡ scan (refusal_number why) after
    step_refused why after (given v) q p = absurd p
    step_refused why after (refused k) q p = let number = sym p.0 in let words = sym p.1 in step_faulty q ∙ (λ i. scan (number i) (words i))

    -- the numerals lie in the line
    pub within : n + 1 ≤ length s
    within = omega (arith, count, length_leading numeral (drop 1 s), length-drop 1 s, h)
