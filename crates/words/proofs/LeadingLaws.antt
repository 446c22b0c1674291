-- The bytes of one kind that a list begins with. From std's laws of `take_while` and `prefix_len`.
use Rattle.std.proofs.Common.{◌≡◌, ℕ, zero, suc, ◌+◌, ◌≤◌, ◌<◌, Bool, true, false, cond, List, ◌∷◌, ◌++◌, [], length, take, drop, get_or, refl, sym, ap, ◌∙◌, arith}
use lib.ListN.{drop_of_length-le}
use lib.Seq.{drop-cons, take-nil}
use Rattle.std.proofs.Math.ListN.{take-append-drop}
use Rattle.std.proofs.lemmas.List.Folds.{length-prefix_len}
use Rattle.std.proofs.lemmas.List.Sums.{prefix_len-le-length, take_while-cons}
use Rattle.std.specs.List.{prefix_len}
use Rattle.words.specs.Leading.{leading, behind}

module _ (kind : ℕ → Bool) where
  -- A byte of the kind, and one that is not.
  pub leading_yes : (b : ℕ) (s : List ℕ) → kind b ≡ true → leading kind (b ∷ s) ≡ b ∷ leading kind s
  leading_yes b s e = take_while-cons kind b s ∙ ap (λ (t : Bool). cond t (b ∷ leading kind s) []) e

  pub leading_no : (b : ℕ) (s : List ℕ) → kind b ≡ false → leading kind (b ∷ s) ≡ []
  leading_no b s e = take_while-cons kind b s ∙ ap (λ (t : Bool). cond t (b ∷ leading kind s) []) e

  pub behind_yes : (b : ℕ) (s : List ℕ) → kind b ≡ true → behind kind (b ∷ s) ≡ behind kind s
  behind_yes b s e =
      let one : 1 + prefix_len kind s ≡ suc (prefix_len kind s) = omega arith in
      ap (λ (t : Bool). drop (cond t (1 + prefix_len kind s) 0) (b ∷ s)) e ∙ ap (λ (n : ℕ). drop n (b ∷ s)) one

  pub behind_no : (b : ℕ) (s : List ℕ) → kind b ≡ false → behind kind (b ∷ s) ≡ b ∷ s
  behind_no b s e = ap (λ (t : Bool). drop (cond t (1 + prefix_len kind s) 0) (b ∷ s)) e

  -- They are the list's first bytes, and those behind them its others.
  pub take_leading : (s : List ℕ) → take (length (leading kind s)) s ≡ leading kind s
  take_leading s = ap (λ (n : ℕ). take n s) (length-prefix_len kind s)

  pub drop_leading : (s : List ℕ) → drop (length (leading kind s)) s ≡ behind kind s
  drop_leading s = ap (λ (n : ℕ). drop n s) (length-prefix_len kind s)

  pub leading_behind : (s : List ℕ) → leading kind s ++ behind kind s ≡ s
  leading_behind s = take-append-drop (prefix_len kind s) s

  pub length_leading : (s : List ℕ) → length (leading kind s) ≤ length s
  length_leading s = omega (arith, length-prefix_len kind s, prefix_len-le-length kind s)

  -- Of the first n bytes: fewer than n of the kind are all that the list begins with; n are, and perhaps more.
  pub leading_first : (n : ℕ) (s : List ℕ) → length (leading kind (take n s)) < n → leading kind (take n s) ≡ leading kind s
  leading_first n [] h = ap (leading kind) (take-nil {A = ℕ} n)
  leading_first zero (b ∷ s) h = absurd (omega arith)
  leading_first (suc n) (b ∷ s) h = go (kind b) refl (leading_first n s) h
    where
      go : (t : Bool) → kind b ≡ t → (length (leading kind (take n s)) < n → leading kind (take n s) ≡ leading kind s)
          → length (leading kind (b ∷ take n s)) < suc n → leading kind (b ∷ take n s) ≡ leading kind (b ∷ s)
      go true e more few =
          let fewer : length (leading kind (take n s)) < n = omega (arith, few, ap (λ (l : List ℕ). length l) (leading_yes b (take n s) e)) in
          leading_yes b (take n s) e ∙ ap (λ (r : List ℕ). b ∷ r) (more fewer) ∙ sym (leading_yes b s e)
      go false e more few = leading_no b (take n s) e ∙ sym (leading_no b s e)

  pub leading_most : (n : ℕ) (s : List ℕ) → length (leading kind (take n s)) ≤ length (leading kind s)
  leading_most n [] = rw (take-nil {A = ℕ} n) (omega arith)
  leading_most zero (b ∷ s) = omega arith
  leading_most (suc n) (b ∷ s) = go (kind b) refl (leading_most n s)
    where
      go : (t : Bool) → kind b ≡ t → length (leading kind (take n s)) ≤ length (leading kind s)
          → length (leading kind (b ∷ take n s)) ≤ length (leading kind (b ∷ s))
      go true e most = rw (leading_yes b (take n s) e) (rw (leading_yes b s e) (omega (arith, most)))
      go false e most = rw (leading_no b (take n s) e) (omega arith)

  -- Counted from the left: at a byte of the kind there is one more, at another and at the list's end there are none.
  module _ (s : List ℕ) (i : ℕ) where
    pub counts_yes : i < length s → kind (get_or s i 0) ≡ true → i + length (leading kind (drop i s)) ≡ i + 1 + length (leading kind (drop (i + 1) s))
    counts_yes h e =
        let cut = drop-cons s i 0 h in
        ap (λ (l : List ℕ). i + length (leading kind l)) cut ∙ ap (λ (l : List ℕ). i + length l) (leading_yes (get_or s i 0) (drop (suc i) s) e)
        ∙ rw (suc_is i) (again (length (leading kind (drop (suc i) s))))
      where
        suc_is : (i : ℕ) → i + 1 ≡ suc i
        suc_is i = omega arith

        again : (n : ℕ) → i + suc n ≡ suc i + n
        again n = omega arith

    pub counts_no : i < length s → kind (get_or s i 0) ≡ false → i + length (leading kind (drop i s)) ≡ i
    counts_no h e =
        ap (λ (l : List ℕ). i + length (leading kind l)) (drop-cons s i 0 h) ∙ ap (λ (l : List ℕ). i + length l) (leading_no (get_or s i 0) (drop (suc i) s) e)
        ∙ (omega arith)

    pub counts_end : length s ≤ i → i + length (leading kind (drop i s)) ≡ i
    counts_end h = ap (λ (l : List ℕ). i + length (leading kind l)) (drop_of_length-le s h) ∙ (omega arith)
