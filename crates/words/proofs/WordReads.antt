-- Pieces without a fault are words that are listed, each slot at most once, and these are kept. From the definitions.
use mathlib.Core.Logic.{◌⊎◌, inl, inr}
use mathlib.Core.Path.{◌≡◌, refl, sym, ap, subst, ◌∙◌}
use mathlib.Core.Bool.{Bool, true, false, cond, ◌||◌}
use mathlib.Core.List.{List, [], ◌∷◌, ◌++◌, append-nil}
use Prim.Native.Nat.{ℕ, zero, suc, ◌<◌}
use native.Mathlib.Nat.{suc_inj}
use native.Mathlib.Omega.{arith}
use borrow.Author.Tests.{eqb-true, eqb-false}
use lib.Dec.{eqb, lit<}
use lib.IntN.{ℤ, pos}
use lib.ListN.{get_or, length, length-set, replicate}
use lib.Seq.{get_or-set_same, get_or-set_other}
use Rattle.display.specs.Display.{Outcome, given, refused}
use Rattle.words.specs.Number.{number_in}
use Rattle.words.specs.Pieces.{Piece, word, stray}
use Rattle.words.specs.Meaning.{Kept, Listed, Once, number_at, number_of, slot_at, slot_by, slot_in}
use Rattle.words.specs.Steps.{Sized}
use Rattle.words.specs.Words.{Scan, Words, feed_slot, filled, is_number, line_slot, motion_slot, no_words, scan, slot_of, slots, unit_slot, way_slot, with_number, with_pieces, with_slot, with_word, x_slot, y_slot, z_slot}
use Rattle.std.specs.Prelude.{Option, Some, None}

-- Contradictions, and equal slots.
differ : {t : Bool} → t ≡ true → t ≡ false → ⊥
differ p q = let z : ◌≡◌ {A = ℕ} 0 1 = cc in omega arith

pub unlisted : {k : ℕ} → None ≡ Some k → ⊥
unlisted e = let z : ◌≡◌ {A = ℕ} 0 1 = cc in omega arith

same_slot : {j k : ℕ} → Some j ≡ Some k → j ≡ k
same_slot e = cc

-- Every slot of a word is one of a line's.
choice : (t : Bool) {x y : Option ℕ} → ((k : ℕ) → x ≡ Some k → k < slots) → ((k : ℕ) → y ≡ Some k → k < slots) → (k : ℕ) → cond t x y ≡ Some k → k < slots
choice true p q = p
choice false p q = q

one : (j : ℕ) → j < slots → (k : ℕ) → Some j ≡ Some k → k < slots
one j h k e = subst (λ (n : ℕ). n < slots) (same_slot e) h

slot_below : (c : ℕ) (z : ℤ) (k : ℕ) → slot_of c z ≡ Some k → k < slots
slot_below c z =
    let no : (k : ℕ) → None ≡ Some k → k < slots = λ k e. absurd (unlisted e) in
    choice (eqb c 71)
    (choice (is_number 0 z || is_number 1 z) (one motion_slot (lit< tt))
    (choice (is_number 20 z || is_number 21 z) (one unit_slot (lit< tt)) (choice (is_number 90 z || is_number 91 z) (one way_slot (lit< tt)) no)))
    (choice (eqb c 78) (one line_slot (lit< tt))
    (choice (eqb c 70) (one feed_slot (lit< tt))
    (choice (eqb c 88) (one x_slot (lit< tt)) (choice (eqb c 89) (one y_slot (lit< tt)) (choice (eqb c 90) (one z_slot (lit< tt)) no)))))

-- A slot is filled: it stands with the number, the others are as they were.
module _ (w : Words) (sized : Sized w.stands w.values) (j : ℕ) (z : ℤ) (l : j < slots) where
  fills : get_or (filled j z w).stands j false ≡ true
  fills = get_or-set_same w.stands j true false (omega (arith, sized.told, l))

  puts : get_or (filled j z w).values j (pos 0) ≡ z
  puts = get_or-set_same w.values j z (pos 0) (omega (arith, sized.numbers, l))

  sized_still : Sized (filled j z w).stands (filled j z w).values
  sized_still = record { told = length-set w.stands j true ∙ sized.told; numbers = length-set w.values j z ∙ sized.numbers }

-- What reading pieces behind words w without a fault says of them, and of the words afterwards.
record Read (w : Words) (pieces : List Piece) (after : Words) : Type 0 where
  once : Once pieces
  free : (i k : ℕ) → slot_at pieces i ≡ Some k → get_or w.stands k false ≡ false
  stands : (i k : ℕ) → slot_at pieces i ≡ Some k → get_or after.stands k false ≡ true
  number : (i k : ℕ) → slot_at pieces i ≡ Some k → number_at pieces i ≡ Some (get_or after.values k (pos 0))
  only : (k : ℕ) → get_or after.stands k false ≡ true → (get_or w.stands k false ≡ true) ⊎ ((i : ℕ) × (slot_at pieces i ≡ Some k))
  still : (k : ℕ) → get_or w.stands k false ≡ true
      → (get_or after.stands k false ≡ true) × (get_or after.values k (pos 0) ≡ get_or w.values k (pos 0))

none_read : (w : Words) → Read w [] w
none_read w =
    record {
      once = record { listed = λ i h. absurd (omega arith); apart = λ i j k e. absurd (unlisted e) };
      free = λ i k e. absurd (unlisted e);
      stands = λ i k e. absurd (unlisted e);
      number = λ i k e. absurd (unlisted e);
      only = λ k e. inl e;
      still = λ k e. (e, refl);
    }

-- A word whose slot j does not stand yet, and the pieces behind it.
module _ (p : Piece) (rest : List Piece) (w after : Words) (j : ℕ) (z : ℤ)
    (at : slot_in p ≡ Some j) (is : number_of p ≡ Some z) (l : j < slots) (new : get_or w.stands j false ≡ false)
    (sized : Sized w.stands w.values) (more : Read (filled j z w) rest after) where
  -- no piece behind has the slot
  alone : (i : ℕ) → slot_at rest i ≡ Some j → ⊥
  alone i e = differ (fills w sized j z l) (more.free i j e)

  first : (k : ℕ) → slot_in p ≡ Some k → j ≡ k
  first k e = same_slot (sym at ∙ e)

  other : (k : ℕ) → (k ≡ j → ⊥) → get_or (filled j z w).stands k false ≡ get_or w.stands k false
  other k n = get_or-set_other w.stands j k true false n

  later : (i k : ℕ) → slot_at rest i ≡ Some k → k ≡ j → ⊥
  later i k e q = alone i (e ∙ ap Some q)

  kept : (get_or after.stands j false ≡ true) × (get_or after.values j (pos 0) ≡ z)
  kept = let s = more.still j (fills w sized j z l) in (s.0, s.1 ∙ puts w sized j z l)

  listed : (i : ℕ) → i < suc (length rest) → Listed (slot_at (p ∷ rest) i)
  listed zero h = subst Listed (sym at) l
  listed (suc i) h = more.once.listed i (omega arith)

  apart : (a b k : ℕ) → slot_at (p ∷ rest) a ≡ Some k → slot_at (p ∷ rest) b ≡ Some k → a ≡ b
  apart zero zero k e f = refl
  apart zero (suc b) k e f = absurd (later b k f (sym (first k e)))
  apart (suc a) zero k e f = absurd (later a k e (sym (first k f)))
  apart (suc a) (suc b) k e f = ap suc (more.once.apart a b k e f)

  free : (i k : ℕ) → slot_at (p ∷ rest) i ≡ Some k → get_or w.stands k false ≡ false
  free zero k e = subst (λ (n : ℕ). get_or w.stands n false ≡ false) (first k e) new
  free (suc i) k e = sym (other k (later i k e)) ∙ more.free i k e

  stands : (i k : ℕ) → slot_at (p ∷ rest) i ≡ Some k → get_or after.stands k false ≡ true
  stands zero k e = subst (λ (n : ℕ). get_or after.stands n false ≡ true) (first k e) kept.0
  stands (suc i) k e = more.stands i k e

  number : (i k : ℕ) → slot_at (p ∷ rest) i ≡ Some k → number_at (p ∷ rest) i ≡ Some (get_or after.values k (pos 0))
  number zero k e = is ∙ subst (λ (n : ℕ). Some z ≡ Some (get_or after.values n (pos 0))) (first k e) (ap Some (sym kept.1))
  number (suc i) k e = more.number i k e

  only : (k : ℕ) → get_or after.stands k false ≡ true → (get_or w.stands k false ≡ true) ⊎ ((i : ℕ) × (slot_at (p ∷ rest) i ≡ Some k))
  only k e = go (more.only k e) (eqb k j) refl
    where
      go : (get_or (filled j z w).stands k false ≡ true) ⊎ ((i : ℕ) × (slot_at rest i ≡ Some k)) → (t : Bool) → eqb k j ≡ t
          → (get_or w.stands k false ≡ true) ⊎ ((i : ℕ) × (slot_at (p ∷ rest) i ≡ Some k))
      go (inr f) t q = inr (suc f.0, f.1)
      go (inl s) true q = inr (zero, at ∙ ap Some (sym (eqb-true k j q)))
      go (inl s) false q = inl (sym (other k (eqb-false k j q)) ∙ s)

  still : (k : ℕ) → get_or w.stands k false ≡ true
      → (get_or after.stands k false ≡ true) × (get_or after.values k (pos 0) ≡ get_or w.values k (pos 0))
  still k e =
      let n : (k ≡ j → ⊥) = λ q. differ e (ap (λ (m : ℕ). get_or w.stands m false) q ∙ new) in
      let s = more.still k (other k n ∙ e) in
      (s.0, s.1 ∙ get_or-set_other w.values j k z (pos 0) n)

  word_read : Read w (p ∷ rest) after
  word_read = record { once = record { listed = listed; apart = apart }; free = free; stands = stands; number = number; only = only; still = still }

-- What putting a word behind words w leads to, with the pieces behind it.
abbrev pub next : List Piece → Words → Outcome ℕ Words → Scan
next rest w o = elim o [ given v ↦ with_pieces rest v | refused n ↦ scan n w ]

-- Pieces that are read without a fault.
read_from : (pieces : List Piece) (w : Words) → Sized w.stands w.values → (with_pieces pieces w).number ≡ 0 → Read w pieces (with_pieces pieces w).words
unfolding with_pieces with_word
read_from [] w sized e = none_read w
read_from (stray b ∷ rest) w sized e = absurd (omega (arith, e))
read_from (word c n ∷ rest) w sized e = by_number_lem (number_in n) refl e (λ v. read_from rest v)
  where
    More : Type 0
    More = (v : Words) → Sized v.stands v.values → (with_pieces rest v).number ≡ 0 → Read v rest (with_pieces rest v).words

    by_stands : (z : ℤ) (j : ℕ) (t : Bool) → number_in n ≡ Some z → slot_of c z ≡ Some j → get_or w.stands j false ≡ t
        → (next rest w (cond t (refused 12) (given (filled j z w)))).number ≡ 0 → More → Read w (word c n ∷ rest) (next rest w (cond t (refused 12) (given (filled j z w)))).words
    by_stands z j true q r s e more = absurd (omega (arith, e))
    by_stands z j false q r s e more =
        let l = slot_below c z j r in
        word_read (word c n) rest w (with_pieces rest (filled j z w)).words j z (ap (slot_by c) q ∙ r) q l s sized
        (more (filled j z w) (sized_still w sized j z l) e)

    by_slot : (z : ℤ) (k : Option ℕ) → number_in n ≡ Some z → slot_of c z ≡ k → (next rest w (with_slot k z w)).number ≡ 0 → More
        → Read w (word c n ∷ rest) (next rest w (with_slot k z w)).words
    by_slot z None q r e more = absurd (omega (arith, e))
    by_slot z (Some j) q r e more = by_stands z j (get_or w.stands j false) q r refl e more

    by_number_lem : (m : Option ℤ) → number_in n ≡ m → (next rest w (with_number c m w)).number ≡ 0 → More → Read w (word c n ∷ rest) (next rest w (with_number c m w)).words
    by_number_lem None q e more = absurd (omega (arith, e))
    by_number_lem (Some z) q e more = by_slot z (slot_of c z) q refl e more

-- Words that are listed, with different slots of which none stands, are read one after the other.
read_on : (pieces rest : List Piece) (w : Words) → Once pieces → ((i k : ℕ) → slot_at pieces i ≡ Some k → get_or w.stands k false ≡ false)
    → with_pieces (pieces ++ rest) w ≡ with_pieces rest (with_pieces pieces w).words
unfolding with_pieces with_word
read_on [] rest w once free = refl
read_on (stray b ∷ front) rest w once free = absurd (once.listed 0 (omega arith))
read_on (word c n ∷ front) rest w once free =
    by_number_lem (number_in n) (once.listed 0 (omega arith)) (λ i k e f. absurd (omega (arith, once.apart 0 (suc i) k e f))) (free 0) (λ v. read_on front rest v behind)
  where
    behind : Once front
    behind = record { listed = λ i h. once.listed (suc i) (omega arith); apart = λ a b k e f. suc_inj (once.apart (suc a) (suc b) k e f) }

    More : Type 0
    More = (v : Words) → ((i k : ℕ) → slot_at front i ≡ Some k → get_or v.stands k false ≡ false)
        → with_pieces (front ++ rest) v ≡ with_pieces rest (with_pieces front v).words

    by_stands : (z : ℤ) (j : ℕ) (t : Bool) → t ≡ false → ((i : ℕ) → slot_at front i ≡ Some j → ⊥) → More
        → next (front ++ rest) w (cond t (refused 12) (given (filled j z w))) ≡ with_pieces rest (next front w (cond t (refused 12) (given (filled j z w)))).words
    by_stands z j true s alone more = absurd (differ refl s)
    by_stands z j false s alone more =
        more (filled j z w) (λ i k e. get_or-set_other w.stands j k true false (λ q. alone i (e ∙ ap Some q)) ∙ free (suc i) k e)

    by_slot : (z : ℤ) (s : Option ℕ) → Listed s → ((i k : ℕ) → s ≡ Some k → slot_at front i ≡ Some k → ⊥) → ((k : ℕ) → s ≡ Some k → get_or w.stands k false ≡ false) → More
        → next (front ++ rest) w (with_slot s z w) ≡ with_pieces rest (next front w (with_slot s z w)).words
    by_slot z None l alone new more = absurd l
    by_slot z (Some j) l alone new more = by_stands z j (get_or w.stands j false) (new j refl) (λ i. alone i j refl) more

    by_number_lem : (m : Option ℤ) → Listed (slot_by c m) → ((i k : ℕ) → slot_by c m ≡ Some k → slot_at front i ≡ Some k → ⊥)
        → ((k : ℕ) → slot_by c m ≡ Some k → get_or w.stands k false ≡ false) → More
        → next (front ++ rest) w (with_number c m w) ≡ with_pieces rest (next front w (with_number c m w)).words
    by_number_lem None l alone new more = absurd l
    by_number_lem (Some z) l alone new more = by_slot z (slot_of c z) l alone new more

-- A line begins without words.
none_stands : (n k : ℕ) → get_or (replicate n false) k false ≡ false
none_stands zero k = refl
none_stands (suc n) zero = refl
none_stands (suc n) (suc k) = none_stands n k

no_words_lem : Sized no_words.stands no_words.values
no_words_lem = record { told = refl; numbers = refl }

module _ (pieces : List Piece) where
  abbrev all : Scan
  all = with_pieces pieces no_words

  -- Without a fault: the words are listed, no two have one slot, and each is kept.
  module _ (e : all.number ≡ 0) where
    read : Read no_words pieces all.words
    read = read_from pieces no_words no_words_lem e

    pub pieces_once : Once pieces
    pieces_once = read.once

    pub pieces_kept : Kept pieces all.words
    pieces_kept = record { stands = read.stands; number = read.number; only = λ k s. some k (read.only k s) }
      where
        some : (k : ℕ) → (get_or no_words.stands k false ≡ true) ⊎ ((i : ℕ) × (slot_at pieces i ≡ Some k)) → (i : ℕ) × (slot_at pieces i ≡ Some k)
        some k (inl s) = absurd (differ s (none_stands slots k))
        some k (inr f) = f

  -- Words that are listed, no two with one slot: they have no fault, and what is behind them is read behind them.
  module _ (once : Once pieces) where
    pub pieces_on : (rest : List Piece) → with_pieces (pieces ++ rest) no_words ≡ with_pieces rest all.words
    pieces_on rest = read_on pieces rest no_words once (λ i k e. none_stands slots k)

    pub pieces_right : all.number ≡ 0
    unfolding with_pieces
    pieces_right = ap (λ (l : List Piece). (with_pieces l no_words).number) (sym (append-nil pieces)) ∙ ap (λ (s : Scan). s.number) (pieces_on [])
