-- A run of numbers stored in a list, one after the other: what is read of it, and how code that stores by offsets makes it.
use mathlib.Core.Bool.{Bool, true, false, cond}
use mathlib.Core.List.{List, ◌∷◌, ◌++◌, [], append_assoc, append-nil}
use mathlib.Core.Path.{◌≡◌, refl, ap, ◌∙◌}
use Prim.Native.Nat.{ℕ, zero, suc, ◌+◌, ◌-◌, ◌≤◌, ◌<◌}
use borrow.Author.Tests.{ltb-true, ltb-false}
use native.Mathlib.Omega.{arith}
use lib.Dec.{ltb}
use lib.ListN.{length, take, drop, get_or, set, drop_of_length-le, length-append, length-drop, length-set, length-take}
use lib.Seq.{sets, sets-eq, drop-length, get_or-set_same, get_or-set_other, length-sets, length-take-le, take_at}
use borrow.Rule.Slice.PartMut.{mid_of, post_of, put_mid}

-- A list stored from its begin to its end is what was stored.
pub sets_all : {A : Type 0} (vs l : List A) → length l ≡ length vs → sets l 0 vs ≡ vs
sets_all vs l e =
    let all : 0 + length vs ≡ length l = omega arith in
    sets-eq vs l 0 (omega arith) ∙ rw (all, drop-length l) (append-nil vs)

-- A list stored in the middle of another: what lies before its end.
pub stored_behind : (list vs : List ℕ) (from k end : ℕ) → from ≤ length list → from + length vs ≡ end → take end (put_mid from k list vs) ≡ take from list ++ vs
stored_behind list vs from k end h e =
    let long : length (take from list ++ vs) ≡ end = omega (arith, length-append (take from list) vs, length-take-le from list h) in
    rw (← append_assoc (take from list) vs (post_of from k list)) (take_at (take from list ++ vs) (post_of from k list) end long)

-- A list stored in two parts: from its beginning, and the rest of it, which is lent,
module _ (list front back : List ℕ) (n k : ℕ) (f : length front ≡ n) (l : length list ≡ n + k) (b : length back ≡ k) where
  pub stored_rest : put_mid n k (sets list 0 front) back ≡ front ++ back
  stored_rest =
      let whole : length (sets list 0 front) ≡ n + k = length-sets list 0 front ∙ l in
      let rest : length (drop n (sets list 0 front)) ≡ k = omega (arith, length-drop n (sets list 0 front)) in
      let begin : take n (sets list 0 front) ≡ front = ap (take n) (sets-eq front list 0 (omega arith)) ∙ take_at front (drop (0 + length front) list) n f in
      (λ i. begin i ++ (back ++ drop_of_length-le (drop n (sets list 0 front)) {i = k} (omega arith) i))
      ∙ ap (λ (t : List ℕ). front ++ t) (append-nil back)

  -- where it is stored as a run of its own.
  pub stored_both : put_mid n k (sets list 0 front) (sets (mid_of n k (sets list 0 front)) 0 back) ≡ front ++ back
  stored_both =
      let whole : length (sets list 0 front) ≡ n + k = length-sets list 0 front ∙ l in
      let rest : length (drop n (sets list 0 front)) ≡ k = omega (arith, length-drop n (sets list 0 front)) in
      let lent : length (mid_of n k (sets list 0 front)) ≡ length back = omega (arith, length-take k (drop n (sets list 0 front))) in
      ap (put_mid n k (sets list 0 front)) (sets_all back (mid_of n k (sets list 0 front)) lent) ∙ stored_rest

-- What is read before a run, behind it, and in it;
pub sets_below : (vs m : List ℕ) (at k : ℕ) → k < at → get_or (sets m at vs) k 0 ≡ get_or m k 0
sets_below [] m at k h = refl
sets_below (v ∷ vs) m at k h = sets_below vs (set m at v) (suc at) k (omega arith) ∙ get_or-set_other m at k v 0 (λ e. omega arith)

pub sets_above : (vs m : List ℕ) (at k : ℕ) → at + length vs ≤ k → get_or (sets m at vs) k 0 ≡ get_or m k 0
sets_above [] m at k h = refl
sets_above (v ∷ vs) m at k h = sets_above vs (set m at v) (suc at) k (omega arith) ∙ get_or-set_other m at k v 0 (λ e. omega arith)

sets_in : (vs m : List ℕ) (at j : ℕ) → j < length vs → at + length vs ≤ length m → get_or (sets m at vs) (at + j) 0 ≡ get_or vs j 0
sets_in [] m at j h q = absurd (omega arith)
sets_in (v ∷ vs) m at zero h q =
    let e : at + 0 ≡ at = omega arith in
    rw e (sets_below vs (set m at v) (suc at) at (omega arith) ∙ get_or-set_same m at v 0 (omega arith))
sets_in (v ∷ vs) m at (suc j) h q =
    let e : at + suc j ≡ suc at + j = omega arith in
    rw e (sets_in vs (set m at v) (suc at) j (omega arith) (omega (arith, length-set m at v)))

-- and in one: numbers by their offsets, with a run from offset k on.
abbrev pub with_run : (ℕ → ℕ) → (k : ℕ) → List ℕ → ℕ → ℕ
with_run number k vs j = cond (ltb j k) (number j) (cond (ltb j (k + length vs)) (get_or vs (j - k) 0) (number j))

pub sets_at : (m : List ℕ) (at k : ℕ) (vs : List ℕ) (from : ℕ) → from ≡ at + k → from + length vs ≤ length m → (j i : ℕ) → i ≡ at + j
    → get_or (sets m from vs) i 0 ≡ with_run (λ o. get_or m (at + o) 0) k vs j
sets_at m at k vs from p fits j i q = before (ltb j k) refl
  where
    here : get_or m i 0 ≡ get_or m (at + j) 0
    here = ap (λ (n : ℕ). get_or m n 0) q

    behind : (t : Bool) → ltb j (k + length vs) ≡ t → k ≤ j → get_or (sets m from vs) i 0 ≡ cond t (get_or vs (j - k) 0) (get_or m (at + j) 0)
    behind true e h =
        let low = ltb-true j (k + length vs) e in
        let o : i ≡ from + (j - k) = omega arith in
        rw o (sets_in vs m from (j - k) (omega arith) fits)
    behind false e h = let high = ltb-false j (k + length vs) e in sets_above vs m from i (omega arith) ∙ here

    before : (t : Bool) → ltb j k ≡ t
        → get_or (sets m from vs) i 0 ≡ cond t (get_or m (at + j) 0) (cond (ltb j (k + length vs)) (get_or vs (j - k) 0) (get_or m (at + j) 0))
    before true e = let low = ltb-true j k e in sets_below vs m from i (omega arith) ∙ here
    before false e = behind (ltb j (k + length vs)) refl (ltb-false j k e)

-- Stores at `at + j`, `at + (j + 1)`, .. one after the other
abbrev pub stores : List ℕ → (at j : ℕ) → (vs : List ℕ) → List ℕ
stores m at j [] = m
stores m at j (v ∷ vs) = stores (set m (at + j) v) at (suc j) vs

-- are a run.
stores_from : (vs m : List ℕ) (at j : ℕ) → stores m at j vs ≡ sets m (at + j) vs
stores_from [] m at j = refl
stores_from (v ∷ vs) m at j =
    let next : at + suc j ≡ suc (at + j) = omega arith in
    stores_from vs (set m (at + j) v) at (suc j) ∙ ap (λ (k : ℕ). sets (set m (at + j) v) k vs) next

pub stores_run : (vs m : List ℕ) (at : ℕ) → stores m at 0 vs ≡ sets m at vs
stores_run vs m at = let none : at + 0 ≡ at = omega arith in stores_from vs m at 0 ∙ ap (λ (k : ℕ). sets m k vs) none

-- The first n numbers by their indices: what is read of them, and where they are the same.
abbrev pub run_of : (n : ℕ) → (ℕ → ℕ) → List ℕ
run_of zero number = []
run_of (suc n) number = number 0 ∷ run_of n (λ j. number (suc j))

pub run_at : (n : ℕ) (number : ℕ → ℕ) (j : ℕ) → j < n → get_or (run_of n number) j 0 ≡ number j
run_at zero number j h = absurd (omega arith)
run_at (suc n) number zero h = refl
run_at (suc n) number (suc j) h = run_at n (λ k. number (suc k)) j (omega arith)

pub run_same : (n : ℕ) (f g : ℕ → ℕ) → ((j : ℕ) → j < n → f j ≡ g j) → run_of n f ≡ run_of n g
run_same zero f g e = refl
run_same (suc n) f g e = λ i. e 0 (omega arith) i ∷ run_same n (λ j. f (suc j)) (λ j. g (suc j)) (λ j h. e (suc j) (omega arith)) i
