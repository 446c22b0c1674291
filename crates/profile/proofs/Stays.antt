-- The stairs when a block is added, by the walk down from the last one that `stay_from` makes. From the laws of the stairs.
use mathlib.Core.Bool.{Bool, true, false, cond, ◌&&◌}
use mathlib.Core.Path.{◌≡◌, refl, ap, sym, ◌∙◌}
use mathlib.Core.List.{List, [], ◌∷◌, ◌++◌}
use Prim.Native.Nat.{ℕ, zero, suc, ◌+◌, ◌-◌, ◌%◌, ◌^◌, ◌≤◌, ◌<◌}
use native.Mathlib.Nat.{mod-eq_of_lt}
use native.Mathlib.Omega.{arith}
use lib.Dec.{leb}
use lib.ListN.{length, take, drop, length-drop, drop_of_length-le}
use lib.Seq.{drop-cons}
use Rattle.profile.specs.Line.{total_reach}
use Rattle.profile.specs.declared.Span.{Span}
use Rattle.profile.specs.declared.Stay.{Stay}
use Rattle.profile.specs.Stairs.{Stair, stair, no_stair, stair_from, farther, stairs_of, stairs_after, gaps_of, stay_from}
use Rattle.profile.proofs.Stairs.{Ended, stairs_ended, stairs_gaps, farther_gaps, stairs_last, all_hidden, hidden_by, staying, pushed, pushed_by, push_farther}

-- The stairs after the first junction with one block more.
after_last : (line : List Span) (s : Span) → 0 < length line → stairs_after (line ++ (s ∷ [])) ≡ pushed s.cap s.reach (stairs_after line)
unfolding stairs_after
after_last [] s h = absurd (omega arith)
after_last (x ∷ line) s h = ap (farther x.reach) (stairs_last line s) ∙ push_farther s.cap s.reach x.reach (stairs_of line)

-- Their gaps are the reaches of the line.
pub after_gaps : (line : List Span) → gaps_of (stairs_after line) ≡ total_reach line
unfolding stairs_after total_reach gaps_of
after_gaps [] = refl
after_gaps (s ∷ line) = farther_gaps s.reach (stairs_of line) (stairs_ended line) ∙ ap (λ (t : ℕ). s.reach + t) (stairs_gaps line)

staying_by : (k : ℕ) (e : Stair) (l : List Stair) {b : Bool} → all_hidden k (e ∷ l) ≡ b → staying k (e ∷ l) ≡ cond b 0 (suc (staying k l))
unfolding staying
staying_by k e l q = ap (λ (b : Bool). cond b 0 (suc (staying k l))) q

-- The new junction behind the stairs that stay.
abbrev behind : (n k r : ℕ) → List Stair → List Stair
behind n k r l = take n l ++ stair (gaps_of (drop n l)) k ∷ stair r 0 ∷ []

pushed_behind : (k r : ℕ) (l : List Stair) → Ended l → pushed k r l ≡ behind (staying k l) k r l
unfolding all_hidden
pushed_behind k r [] h = absurd (omega arith)
pushed_behind k r (e ∷ []) h = pushed_by k r e [] refl ∙ rw (staying_by k e [] refl)
pushed_behind k r (e ∷ f ∷ l) h = pick (all_hidden k (e ∷ f ∷ l)) refl (pushed_behind k r (f ∷ l) (omega arith))
  where
    pick : (b : Bool) → all_hidden k (e ∷ f ∷ l) ≡ b → pushed k r (f ∷ l) ≡ behind (staying k (f ∷ l)) k r (f ∷ l)
        → pushed k r (e ∷ f ∷ l) ≡ behind (staying k (e ∷ f ∷ l)) k r (e ∷ f ∷ l)
    pick true p i = pushed_by k r e (f ∷ l) p ∙ rw (staying_by k e (f ∷ l) p)
    pick false p i = pushed_by k r e (f ∷ l) p ∙ rw (staying_by k e (f ∷ l) p) (ap (λ (m : List Stair). e ∷ m) i)

module _ (k : ℕ) where
  -- Where not all stairs from one on are hidden, neither are all from an earlier one on,
  not_all : (s : ℕ) (l : List Stair) → all_hidden k (drop s l) ≡ false → all_hidden k l ≡ false
  unfolding all_hidden
  not_all zero l h = h
  not_all (suc s) [] h = h
  not_all (suc s) (e ∷ l) h = ap (λ (b : Bool). b && hidden_by k e.cap l) (not_all s l h)

  -- and those that stay are all before it and those that stay from it on.
  staying_drop : (s : ℕ) (l : List Stair) → all_hidden k (drop s l) ≡ false → staying k l ≡ s + staying k (drop s l)
  unfolding all_hidden
  staying_drop zero l h = omega arith
  staying_drop (suc s) [] h = absurd (let z : ◌≡◌ {A = ℕ} 0 1 = cc in omega arith)
  staying_drop (suc s) (e ∷ l) h =
      staying_by k e l (ap (λ (b : Bool). b && hidden_by k e.cap l) (not_all s l h)) ∙ omega (arith, staying_drop s l h)

  drop_gaps : (s : ℕ) (l : List Stair) → gaps_of (drop s l) ≤ gaps_of l
  unfolding gaps_of
  drop_gaps zero l = omega arith
  drop_gaps (suc s) [] = omega arith
  drop_gaps (suc s) (e ∷ l) = omega (arith, drop_gaps s l)

  -- Where all are hidden none stays.
  all_go : (l : List Stair) → all_hidden k l ≡ true → staying k l ≡ 0
  unfolding staying
  all_go [] p = refl
  all_go (e ∷ l) p = staying_by k e l p

  -- Whether all from a stair on are hidden, where all behind it are.
  hidden_step : (e : Stair) (l : List Stair) → Ended l → all_hidden k l ≡ true → all_hidden k (e ∷ l) ≡ leb (gaps_of l + k) e.cap
  unfolding all_hidden
  hidden_step e [] h p = absurd (omega arith)
  hidden_step e (f ∷ l) h p = ap (λ (b : Bool). b && leb (gaps_of (f ∷ l) + k) e.cap) p

  -- The walk down from stair s, where all behind it are hidden, comes to the stairs that stay.
  module _ (at : ℕ → Stair) (l : List Stair) (same : (j : ℕ) → j < length l → at j ≡ stair_from l j) (fits : gaps_of l + k < 2 ^ 64) where
    abbrev stays : Stay
    stays = record { count = staying k l; allows = gaps_of (drop (staying k l) l) + k }

    module _ (s : ℕ) (h : suc s < length l) (p : all_hidden k (drop (suc s) l) ≡ true) where
      here : drop s l ≡ at s ∷ drop (suc s) l
      here = drop-cons l s no_stair (omega arith) ∙ ap (λ (e : Stair). e ∷ drop (suc s) l) (sym (same s (omega arith)))

      tested : all_hidden k (drop s l) ≡ leb (gaps_of (drop (suc s) l) + k) (at s).cap
      tested = ap (all_hidden k) here ∙ hidden_step (at s) (drop (suc s) l) (omega (arith, length-drop (suc s) l)) p

      -- it goes on with one stair more,
      goes : (gaps_of (drop (suc s) l) + k + (at s).gap) % 2 ^ 64 ≡ gaps_of (drop s l) + k
      unfolding gaps_of
      goes = let e = ap gaps_of here in mod-eq_of_lt (omega (arith, drop_gaps s l)) ∙ omega arith

      -- or ends
      ends : leb (gaps_of (drop (suc s) l) + k) (at s).cap ≡ false → record { count = suc s; allows = gaps_of (drop (suc s) l) + k } ≡ stays
      ends q =
          let one : staying k (drop s l) ≡ 1 = ap (staying k) here ∙ staying_by k (at s) (drop (suc s) l) (sym (ap (all_hidden k) here) ∙ tested ∙ q) ∙ ap suc (all_go (drop (suc s) l) p) in
          let all : suc s ≡ staying k l = omega (arith, staying_drop s l (tested ∙ q)) in
          λ i. record { count = all i; allows = gaps_of (drop (all i) l) + k }

    stay_from_lem : (s : ℕ) → s < length l → all_hidden k (drop s l) ≡ true → stay_from at s (gaps_of (drop s l) + k) ≡ stays
    unfolding stay_from
    stay_from_lem zero h p = let none = sym (all_go l p) in λ i. record { count = none i; allows = gaps_of (drop (none i) l) + k }
    stay_from_lem (suc s) h p = pick (leb (gaps_of (drop (suc s) l) + k) (at s).cap) refl (stay_from_lem s (omega arith))
      where
        pick : (t : Bool) → leb (gaps_of (drop (suc s) l) + k) (at s).cap ≡ t → (all_hidden k (drop s l) ≡ true → stay_from at s (gaps_of (drop s l) + k) ≡ stays)
            → elim t [ true ↦ stay_from at s ((gaps_of (drop (suc s) l) + k + (at s).gap) % 2 ^ 64) | false ↦ record { count = suc s; allows = gaps_of (drop (suc s) l) + k } ] ≡ stays
        pick true q down = ap (stay_from at s) (goes s h p) ∙ down (tested s h p ∙ q)
        pick false q down = ends s h p q

    -- From the end on.
    pub stay_end : (s : ℕ) → s + 1 ≡ length l → stay_from at s (((at s).gap + k) % 2 ^ 64) ≡ stays
    unfolding gaps_of all_hidden
    stay_end s h =
        let last : drop s l ≡ at s ∷ [] = drop-cons l s no_stair (omega arith) ∙ λ i. sym (same s (omega arith)) i ∷ drop_of_length-le l {i = suc s} (omega arith) i in
        let sum : ((at s).gap + k) % 2 ^ 64 ≡ gaps_of (drop s l) + k = let e = ap gaps_of last in mod-eq_of_lt (omega (arith, drop_gaps s l)) ∙ omega arith in
        ap (stay_from at s) sum ∙ stay_from_lem s (omega arith) (ap (all_hidden k) last)

-- The stairs of a line with one block more, by that walk: those that stay, the new junction and the new end.
pub stairs_added : (line : List Span) (s : Span) → 0 < length line
    → (at : ℕ → Stair) → ((j : ℕ) → j < length (stairs_after line) → at j ≡ stair_from (stairs_after line) j) → total_reach line + s.cap < 2 ^ 64
    → (end : ℕ) → end + 1 ≡ length (stairs_after line) → (w : Stay) → w ≡ stay_from at end (((at end).gap + s.cap) % 2 ^ 64)
    → stairs_after (line ++ (s ∷ [])) ≡ take w.count (stairs_after line) ++ stair (w.allows - s.cap) s.cap ∷ stair s.reach 0 ∷ []
stairs_added line s h at same fits end e w is =
    let l = stairs_after line in
    let k = s.cap in
    let walk = is ∙ stay_end k at l same (omega (arith, after_gaps line)) end e in
    let gap : gaps_of (drop (staying k l) l) ≡ w.allows - k = omega (arith, ap (λ (w : Stay). w.allows) walk) in
    after_last line s h ∙ pushed_behind k s.reach l (omega arith)
    ∙ λ i. take (sym (ap (λ (w : Stay). w.count) walk) i) l ++ stair (gap i) k ∷ stair s.reach 0 ∷ []

-- No more stay than the walk begins with.
pub stay_few : (at : ℕ → Stair) (s v : ℕ) → (stay_from at s v).count ≤ s
unfolding stay_from
stay_few at zero v = omega arith
stay_few at (suc s) v = pick (leb v (at s).cap) (stay_few at s ((v + (at s).gap) % 2 ^ 64))
  where
    pick : (t : Bool) → (stay_from at s ((v + (at s).gap) % 2 ^ 64)).count ≤ s
        → (elim t as (λ x. Stay) [ true ↦ stay_from at s ((v + (at s).gap) % 2 ^ 64) | false ↦ record { count = suc s; allows = v } ]).count ≤ suc s
    pick true i = omega arith
    pick false i = omega arith
