-- Leading bytes of one kind are all that a list begins with, and no more. From the definitions.
use mathlib.Core.Path.{◌≡◌, refl, sym, ap, subst, ◌∙◌}
use mathlib.Core.Bool.{Bool, true, false}
use mathlib.Core.List.{List, [], ◌∷◌, ◌++◌}
use Prim.Native.Nat.{ℕ}
use Rattle.words.specs.Leading.{leading, behind}
use Rattle.words.specs.Meaning.{Each, Outside}
use Rattle.words.proofs.LeadingLaws.{leading_yes, leading_no, behind_yes, behind_no}

module _ (kind : ℕ → Bool) where
  -- Each of them is of the kind, and the byte behind them, where there is one, is not.
  pub leading_kind : (s : List ℕ) → Each kind (leading kind s)
  leading_kind [] = tt
  leading_kind (b ∷ s) = go (kind b) refl (leading_kind s)
    where
      go : (t : Bool) → kind b ≡ t → Each kind (leading kind s) → Each kind (leading kind (b ∷ s))
      go true e more = subst (Each kind) (sym (leading_yes kind b s e)) (e, more)
      go false e more = subst (Each kind) (sym (leading_no kind b s e)) tt

  pub behind_kind : (s : List ℕ) → Outside kind (behind kind s)
  behind_kind [] = tt
  behind_kind (b ∷ s) = go (kind b) refl (behind_kind s)
    where
      go : (t : Bool) → kind b ≡ t → Outside kind (behind kind s) → Outside kind (behind kind (b ∷ s))
      go true e more = subst (Outside kind) (sym (behind_yes kind b s e)) more
      go false e more = subst (Outside kind) (sym (behind_no kind b s e)) e

  -- No other bytes are: a list is cut where its bytes cease to be of the kind.
  pub leading_cut : (front rest : List ℕ) → Each kind front → Outside kind rest → leading kind (front ++ rest) ≡ front
  leading_cut [] [] each out = refl
  leading_cut [] (b ∷ rest) each out = leading_no kind b rest out
  leading_cut (b ∷ front) rest each out =
      leading_yes kind b (front ++ rest) each.0 ∙ ap (λ (s : List ℕ). b ∷ s) (leading_cut front rest each.1 out)

  pub behind_cut : (front rest : List ℕ) → Each kind front → Outside kind rest → behind kind (front ++ rest) ≡ rest
  behind_cut [] [] each out = refl
  behind_cut [] (b ∷ rest) each out = behind_no kind b rest out
  behind_cut (b ∷ front) rest each out = behind_yes kind b (front ++ rest) each.0 ∙ behind_cut front rest each.1 out
