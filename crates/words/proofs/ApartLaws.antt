-- The words of a line in two lists, and in one. From the definitions.
use mathlib.Core.Path.{◌≡◌, refl, sym, ap, ◌∙◌}
use mathlib.Core.Bool.{Bool, true, false, cond}
use mathlib.Core.List.{List, [], ◌∷◌}
use Prim.Native.Nat.{ℕ, zero, suc, ◌<◌}
use native.Mathlib.Omega.{arith}
use lib.IntN.{ℤ, pos}
use lib.ListN.{get_or, length, length-map, set}
use Rattle.std.specs.Option.{is_some, unwrap_or}
use Rattle.std.proofs.lemmas.List.{ext_get_or}
use Rattle.display.specs.Display.{Outcome, given, refused}
use Rattle.words.specs.Number.{number_in}
use Rattle.words.specs.Pieces.{Piece, word, stray, pieces_of}
use Rattle.words.specs.Steps.{Sized}
use Rattle.words.specs.Words.{Scan, Words, behind_words, filled, laid, over, scan, slot_of, slots, with_number, with_pieces, with_slot, with_word, words_by, words_in}
use Rattle.words.proofs.SlotLaws.{stands_in, value_in}
use Rattle.std.specs.Prelude.{Option, Some, None}

-- A word put in its slot: its number is laid over the others with the rest.
laid-set : (stands : List Bool) (numbers below : List ℤ) (k : ℕ) (z : ℤ) → set (laid stands numbers below) k z ≡ laid (set stands k true) (set numbers k z) below
laid-set [] numbers below k z = refl
laid-set (t ∷ stands) [] below zero z = refl
laid-set (t ∷ stands) [] below (suc k) z = refl
laid-set (t ∷ stands) (v ∷ numbers) [] zero z = refl
laid-set (t ∷ stands) (v ∷ numbers) [] (suc k) z = refl
laid-set (t ∷ stands) (v ∷ numbers) (y ∷ below) zero z = refl
laid-set (t ∷ stands) (v ∷ numbers) (y ∷ below) (suc k) z = ap (λ (l : List ℤ). cond t v y ∷ l) (laid-set stands numbers below k z)

-- Reading looks at no number in a slot without a word, and leaves it as it is. So words over some numbers are read as they are alone, and
-- what comes of them lies over the same numbers.
module _ (below : List ℤ) where
  abbrev over_outcome : Outcome ℕ Words → Outcome ℕ Words
  over_outcome (given v) = given (over below v)
  over_outcome (refused n) = refused n

  over_slot : (slot : Option ℕ) (z : ℤ) (w : Words) → with_slot slot z (over below w) ≡ over_outcome (with_slot slot z w)
  over_slot None z w = refl
  over_slot (Some k) z w = go (get_or w.stands k false)
    where
      go : (t : Bool) → cond t (refused 12) (given (filled k z (over below w))) ≡ over_outcome (cond t (refused 12) (given (filled k z w)))
      go true = refl
      go false = λ i. given (words_by (set w.stands k true) (laid-set w.stands w.values below k z i))

  over_word : (letter : ℕ) (numerals : List ℕ) (w : Words) → with_word letter numerals (over below w) ≡ over_outcome (with_word letter numerals w)
  unfolding with_word
  over_word letter numerals w = go (number_in numerals)
    where
      go : (n : Option ℤ) → with_number letter n (over below w) ≡ over_outcome (with_number letter n w)
      go None = refl
      go (Some z) = over_slot (slot_of letter z) z w

  abbrev pub over_scan : Scan → Scan
  over_scan s = scan s.number (over below s.words)

  over_pieces : (pieces : List Piece) (w : Words) → with_pieces pieces (over below w) ≡ over_scan (with_pieces pieces w)
  unfolding with_pieces
  over_pieces [] w = refl
  over_pieces (stray b ∷ rest) w = refl
  over_pieces (word letter numerals ∷ rest) w =
      ap (λ (o : Outcome ℕ Words). elim o [ given v ↦ with_pieces rest v | refused n ↦ scan n (over below w) ]) (over_word letter numerals w)
      ∙ go (over_pieces rest) (with_word letter numerals w)
    where
      go : ((v : Words) → with_pieces rest (over below v) ≡ over_scan (with_pieces rest v)) → (o : Outcome ℕ Words)
          → elim (over_outcome o) [ given v ↦ with_pieces rest v | refused n ↦ scan n (over below w) ]
          ≡ over_scan (elim o [ given v ↦ with_pieces rest v | refused n ↦ scan n w ])
      go more (given v) = more v
      go more (refused n) = refl

  pub read_over : (line : List ℕ) (w : Words) → behind_words line (over below w) ≡ over_scan (behind_words line w)
  unfolding behind_words
  read_over line w = over_pieces (pieces_of line) w

-- What is seen in a slot: the number of the word that stands there, or the one below.
length-laid : (stands : List Bool) (numbers below : List ℤ) → length numbers ≡ length stands → length below ≡ length stands
    → length (laid stands numbers below) ≡ length stands
length-laid [] numbers below e f = refl
length-laid (t ∷ stands) [] below e f = absurd (omega arith)
length-laid (t ∷ stands) (z ∷ numbers) [] e f = absurd (omega arith)
length-laid (t ∷ stands) (z ∷ numbers) (y ∷ below) e f = ap suc (length-laid stands numbers below (omega arith) (omega arith))

get_or-laid : (stands : List Bool) (numbers below : List ℤ) (k : ℕ) → length numbers ≡ length stands → length below ≡ length stands → k < length stands
    → get_or (laid stands numbers below) k (pos 0) ≡ cond (get_or stands k false) (get_or numbers k (pos 0)) (get_or below k (pos 0))
get_or-laid [] numbers below k e f h = absurd (omega arith)
get_or-laid (t ∷ stands) [] below k e f h = absurd (omega arith)
get_or-laid (t ∷ stands) (z ∷ numbers) [] k e f h = absurd (omega arith)
get_or-laid (t ∷ stands) (z ∷ numbers) (y ∷ below) zero e f h = refl
get_or-laid (t ∷ stands) (z ∷ numbers) (y ∷ below) (suc k) e f h = get_or-laid stands numbers below k (omega arith) (omega arith) (omega arith)

-- Two lists that have in each slot what one list has, over some numbers, are the words of that list over these numbers.
module _ (words : List (Option ℤ)) (below : List ℤ) (long : length words ≡ slots) (deep : length below ≡ slots) where
  abbrev w : Words
  w = words_in words

  counted : length w.stands ≡ slots
  counted = length-map words is_some ∙ long

  valued : length w.values ≡ slots
  valued = length-map words (λ v. unwrap_or v (pos 0)) ∙ long

  seen : (k : ℕ) → k < slots → get_or (over below w).values k (pos 0) ≡ unwrap_or (get_or words k None) (get_or below k (pos 0))
  seen k h =
      get_or-laid w.stands w.values below k (valued ∙ sym counted) (deep ∙ sym counted) (omega (arith, counted))
      ∙ (λ i. cond (stands_in words k i) (value_in words k i) (get_or below k (pos 0))) ∙ go (get_or words k None)
    where
      go : (o : Option ℤ) → cond (is_some o) (unwrap_or o (pos 0)) (get_or below k (pos 0)) ≡ unwrap_or o (get_or below k (pos 0))
      go None = refl
      go (Some z) = refl

  pub parted : (stands : List Bool) (values : List ℤ) → Sized stands values → ((k : ℕ) → k < slots → get_or stands k false ≡ is_some (get_or words k None))
      → ((k : ℕ) → k < slots → get_or values k (pos 0) ≡ unwrap_or (get_or words k None) (get_or below k (pos 0))) → words_by stands values ≡ over below w
  parted stands values sized p q = λ i. words_by (same_stands i) (same_values i)
    where
      same_stands : stands ≡ w.stands
      same_stands = ext_get_or false stands w.stands (sized.told ∙ sym counted) (λ k h. p k (omega (arith, sized.told)) ∙ sym (stands_in words k))

      same_values : values ≡ laid w.stands w.values below
      same_values =
          ext_get_or (pos 0) values (laid w.stands w.values below)
          (sized.numbers ∙ sym counted ∙ sym (length-laid w.stands w.values below (valued ∙ sym counted) (deep ∙ sym counted)))
          (λ k h. q k (omega (arith, sized.numbers)) ∙ sym (seen k (omega (arith, sized.numbers))))

-- A slot of one list made of two: it has a word exactly if one stands, and its number, over that of the second list, is that one.
pub joined_stands : (t : Bool) (v : ℤ) → is_some (cond t (Some v) None) ≡ t
joined_stands true v = refl
joined_stands false v = refl

pub joined_value : (t : Bool) (v : ℤ) → unwrap_or (cond t (Some v) None) v ≡ v
joined_value true v = refl
joined_value false v = refl
