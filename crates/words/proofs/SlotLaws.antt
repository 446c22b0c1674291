-- A word in its slot. From the definitions.
use mathlib.Core.Path.{◌≡◌, refl, sym, subst}
use mathlib.Core.Bool.{Bool, false, cond}
use mathlib.Core.List.{List}
use Prim.Native.Nat.{ℕ}
use lib.IntN.{ℤ, pos}
use Rattle.std.specs.Option.{is_some, unwrap_or}
use Rattle.std.proofs.lemmas.List.{map-set}
use lib.ListN.{get_or, get_or-map, set}
use Rattle.display.specs.Display.{given, refused}
use Rattle.display.specs.declared.Refusal.TheVariants as why
use Rattle.words.specs.Steps.{Puts}
use Rattle.words.specs.Number.{number_in}
use Rattle.words.specs.Words.{Words, filled, words_by, words_in, slot_of, with_number, with_slot, with_word}
use Rattle.std.specs.Prelude.{Option, Some, None, Result, Ok, Err, ⊤}
use Rattle.display.specs.declared.Refusal.{Refusal}

-- What stands in a slot of a list's words, and the words of the list with a number put in a slot.
module _ (l : List (Option ℤ)) (k : ℕ) where
  pub stands_in : get_or (words_in l).stands k false ≡ is_some (get_or l k None)
  stands_in = get_or-map is_some l k None

  pub value_in : get_or (words_in l).values k (pos 0) ≡ unwrap_or (get_or l k None) (pos 0)
  value_in = get_or-map (λ w. unwrap_or w (pos 0)) l k None

  pub filled_in : (z : ℤ) → words_in (set l k (Some z)) ≡ filled k z (words_in l)
  filled_in z = λ i. words_by (map-set is_some l k (Some z) i) (map-set (λ w. unwrap_or w (pos 0)) l k (Some z) i)

-- A word whose slot is free.
module _ (slot : Option ℕ) (z : ℤ) (w : Words) (k : ℕ) (e : slot ≡ Some k) where
  pub put_free : get_or w.stands k false ≡ false → Puts (with_slot slot z w) w (Ok tt) (filled k z w)
  put_free t =
      subst (λ (s : Option ℕ). Puts (with_slot s z w) w (Ok tt) (filled k z w)) (sym e)
      (subst (λ (b : Bool). Puts (cond b (refused 12) (given (filled k z w))) w (Ok tt) (filled k z w)) (sym t) refl)

-- A word by its number: badly formed, or put in its slot.
module _ (letter : ℕ) (numerals : List ℕ) (w : Words) where
  pub put_bad : number_in numerals ≡ None → Puts (with_word letter numerals w) w (Err why.Number) w
  unfolding with_word
  put_bad e = subst (λ (n : Option ℤ). Puts (with_number letter n w) w (Err why.Number) w) (sym e) (refl, refl)

  pub put_of : (r : Result ⊤ Refusal) (after : Words) (z : ℤ) (slot : Option ℕ) → number_in numerals ≡ Some z → slot ≡ slot_of letter z → Puts (with_slot slot z w) w r after
      → Puts (with_word letter numerals w) w r after
  unfolding with_word
  put_of r after z slot e s p =
      subst (λ (n : Option ℤ). Puts (with_number letter n w) w r after) (sym e) (subst (λ (k : Option ℕ). Puts (with_slot k z w) w r after) s p)
