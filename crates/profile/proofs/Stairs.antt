-- Laws of the stairs: what the backward pass is by them, and what they are when a block is added or taken. From the definitions.
use mathlib.Core.Bool.{Bool, true, false, cond, ◌&&◌}
use mathlib.Core.Path.{◌≡◌, refl, ap, sym, ◌∙◌}
use mathlib.Core.List.{List, [], ◌∷◌, ◌++◌}
use Prim.Native.Nat.{ℕ, suc, ◌+◌, ◌-◌, ◌≤◌, ◌<◌, min}
use native.Mathlib.Omega.{arith}
use borrow.Author.Tests.{leb-true, leb-false, le-leb, ne_eqb}
use lib.Dec.{leb}
use lib.ListN.{length}
use Rattle.profile.specs.Line.{total_reach}
use Rattle.profile.specs.declared.Span.{Span}
use Rattle.profile.specs.Passes.{brake}
use Rattle.profile.specs.Stairs.{Stair, stair, farther, hides, raised, stairs_of, stairs_after, nearer, gaps_of, first_allows}

-- What the stairs allow where their list begins.
abbrev pub allowed : List Stair → ℕ
allowed l = min (gaps_of l) (first_allows l)

-- A list with at least the end.
abbrev pub Ended : List Stair → Type 0
Ended l = 0 < length l

-- By a test that is made of a path.
raised_by : (cap : ℕ) (l : List Stair) {b : Bool} → hides cap l ≡ b → raised cap l ≡ cond b l (stair 0 cap ∷ l)
raised_by cap l q = ap (λ (b : Bool). cond b l (stair 0 cap ∷ l)) q

same_gap : {g h : ℕ} (c : ℕ) (l : List Stair) → g ≡ h → stair g c ∷ l ≡ stair h c ∷ l
same_gap c l e = λ i. stair (e i) c ∷ l

-- The stairs of a line are never none: its end is one.
raised_ended : (s : Span) (l : List Stair) → Ended l → Ended (raised s.cap (farther s.reach l))
raised_ended s [] h = absurd (omega arith)
raised_ended s (e ∷ []) h = omega arith
raised_ended s (e ∷ f ∷ l) h = pick (hides s.cap (farther s.reach (e ∷ f ∷ l)))
  where
    pick : (b : Bool) → Ended (cond b (farther s.reach (e ∷ f ∷ l)) (stair 0 s.cap ∷ farther s.reach (e ∷ f ∷ l)))
    pick true = omega arith
    pick false = omega arith

pub stairs_ended : (line : List Span) → Ended (stairs_of line)
unfolding stairs_of
stairs_ended [] = omega arith
stairs_ended (s ∷ line) = raised_ended s (stairs_of line) (stairs_ended line)

-- The gaps are the reaches of the line.
pub farther_gaps : (reach : ℕ) (l : List Stair) → Ended l → gaps_of (farther reach l) ≡ reach + gaps_of l
unfolding gaps_of
farther_gaps reach [] h = absurd (omega arith)
farther_gaps reach (e ∷ []) h = omega arith
farther_gaps reach (e ∷ f ∷ l) h = omega arith

raised_gaps : (cap : ℕ) (l : List Stair) → gaps_of (raised cap l) ≡ gaps_of l
unfolding gaps_of
raised_gaps cap l = pick (hides cap l)
  where
    pick : (b : Bool) → gaps_of (cond b l (stair 0 cap ∷ l)) ≡ gaps_of l
    pick true = refl
    pick false = omega arith

pub stairs_gaps : (line : List Span) → gaps_of (stairs_of line) ≡ total_reach line
unfolding stairs_of total_reach gaps_of
stairs_gaps [] = refl
stairs_gaps (s ∷ line) =
    raised_gaps s.cap (farther s.reach (stairs_of line)) ∙ farther_gaps s.reach (stairs_of line) (stairs_ended line) ∙ ap (λ (t : ℕ). s.reach + t) (stairs_gaps line)

-- A block before the stairs: what they allow grows by its reach,
farther_allowed : (reach : ℕ) (l : List Stair) → Ended l → allowed (farther reach l) ≡ reach + allowed l
unfolding gaps_of
farther_allowed reach [] h = absurd (omega arith)
farther_allowed reach (e ∷ []) h = omega arith
farther_allowed reach (e ∷ f ∷ l) h = omega arith

-- and a junction before them holds it under its cap.
raised_allowed : (cap : ℕ) (l : List Stair) → Ended l → allowed (raised cap l) ≡ min cap (allowed l)
unfolding gaps_of
raised_allowed cap [] h = absurd (omega arith)
raised_allowed cap (e ∷ []) h = omega arith
raised_allowed cap (e ∷ f ∷ l) h = pick (leb (e.gap + e.cap) cap) refl
  where
    pick : (b : Bool) → leb (e.gap + e.cap) cap ≡ b → allowed (cond b (e ∷ f ∷ l) (stair 0 cap ∷ e ∷ f ∷ l)) ≡ min cap (allowed (e ∷ f ∷ l))
    pick true h = omega (arith, leb-true (e.gap + e.cap) cap h)
    pick false h = omega (arith, leb-false (e.gap + e.cap) cap h)

farther_ended : (reach : ℕ) (l : List Stair) → Ended l → Ended (farther reach l)
farther_ended reach [] h = h
farther_ended reach (e ∷ l) h = h

farther_length : (reach : ℕ) (l : List Stair) → length (farther reach l) ≡ length l
farther_length reach [] = refl
farther_length reach (e ∷ l) = refl

-- The backward pass is what the stairs allow.
pub stairs_brake : (line : List Span) → brake line ≡ allowed (stairs_of line)
unfolding brake stairs_of gaps_of
stairs_brake [] = refl
stairs_brake (s ∷ line) =
    let e = stairs_ended line in
    sym (raised_allowed s.cap (farther s.reach (stairs_of line)) (farther_ended s.reach (stairs_of line) e)
    ∙ ap (min s.cap) (farther_allowed s.reach (stairs_of line) e ∙ ap (λ (t : ℕ). s.reach + t) (sym (stairs_brake line))))

-- The same after the first block of a line, by the stairs seen from where it begins.
pub stairs_exit : (s : Span) (line : List Span) → brake line ≡ allowed (stairs_after (s ∷ line)) - s.reach
unfolding stairs_after
stairs_exit s line = omega (arith, stairs_brake line, farther_allowed s.reach (stairs_of line) (stairs_ended line))

-- A line with blocks has stairs, and no more than blocks.
stairs_few : (line : List Span) → length (stairs_of line) ≤ length line + 1
unfolding stairs_of
stairs_few [] = omega arith
stairs_few (s ∷ line) = pick (hides s.cap (farther s.reach (stairs_of line))) (stairs_few line)
  where
    pick : (b : Bool) → length (stairs_of line) ≤ length line + 1
        → length (cond b (farther s.reach (stairs_of line)) (stair 0 s.cap ∷ farther s.reach (stairs_of line))) ≤ length (s ∷ line) + 1
    pick true h = omega (arith, farther_length s.reach (stairs_of line))
    pick false h = omega (arith, farther_length s.reach (stairs_of line))

pub after_some : (line : List Span) → 0 < length line → 0 < length (stairs_after line)
unfolding stairs_after
after_some [] h = h
after_some (s ∷ line) h = omega (arith, stairs_ended line, farther_length s.reach (stairs_of line))

pub after_few : (line : List Span) → length (stairs_after line) ≤ length line
unfolding stairs_after
after_few [] = omega arith
after_few (s ∷ line) = omega (arith, stairs_few line, farther_length s.reach (stairs_of line))

-- Without the first block: the first gap falls by its reach, and a first stair that this leaves no gap is the junction that has gone.
pub stairs_taken : (s t : Span) (line : List Span) → 0 < t.reach → nearer s.reach (stairs_after (s ∷ t ∷ line)) ≡ stairs_after (t ∷ line)
unfolding stairs_after stairs_of
stairs_taken s t line h = go (stairs_of line) (stairs_ended line)
  where
    go : (l : List Stair) → Ended l → nearer s.reach (farther s.reach (raised t.cap (farther t.reach l))) ≡ farther t.reach l
    go [] g = absurd (omega arith)
    go (e ∷ l) g = pick (hides t.cap (farther t.reach (e ∷ l)))
      where
        pick : (b : Bool) → nearer s.reach (farther s.reach (cond b (stair (t.reach + e.gap) e.cap ∷ l) (stair 0 t.cap ∷ stair (t.reach + e.gap) e.cap ∷ l))) ≡ stair (t.reach + e.gap) e.cap ∷ l
        pick true =
            let left : s.reach + (t.reach + e.gap) - s.reach ≡ t.reach + e.gap = omega arith in
            rw (left, ne_eqb (t.reach + e.gap) 0 (omega arith))
        pick false =
            let left : s.reach + 0 - s.reach ≡ 0 = omega arith in
            rw (left)

-- Whether a new junction with cap k at the end hides every stair before it, from the end of the list on.
abbrev pub hidden_by : (k cap : ℕ) → List Stair → Bool
hidden_by k cap [] = true
hidden_by k cap (f ∷ l) = leb (gaps_of (f ∷ l) + k) cap

unfoldable pub all_hidden : (k : ℕ) → List Stair → Bool
all_hidden k [] = true
all_hidden k (e ∷ l) = all_hidden k l && hidden_by k e.cap l

-- How many stairs it leaves,
unfoldable pub staying : (k : ℕ) → List Stair → ℕ
staying k [] = 0
staying k (e ∷ l) = cond (all_hidden k (e ∷ l)) 0 (suc (staying k l))

-- and the stairs with it and with the new end, a reach behind it.
unfoldable pub pushed : (k reach : ℕ) → List Stair → List Stair
pushed k r [] = []
pushed k r (e ∷ l) = cond (all_hidden k (e ∷ l)) (stair (gaps_of (e ∷ l)) k ∷ stair r 0 ∷ []) (e ∷ pushed k r l)

pub pushed_by : (k r : ℕ) (e : Stair) (l : List Stair) {b : Bool} → all_hidden k (e ∷ l) ≡ b
    → pushed k r (e ∷ l) ≡ cond b (stair (gaps_of (e ∷ l)) k ∷ stair r 0 ∷ []) (e ∷ pushed k r l)
unfolding pushed
pushed_by k r e l q = ap (λ (b : Bool). cond b (stair (gaps_of (e ∷ l)) k ∷ stair r 0 ∷ []) (e ∷ pushed k r l)) q

-- A block put before and a junction put behind may change places,
pub push_farther : (k r d : ℕ) (l : List Stair) → farther d (pushed k r l) ≡ pushed k r (farther d l)
unfolding pushed all_hidden gaps_of
push_farther k r d [] = refl
push_farther k r d (e ∷ l) = pick (all_hidden k (e ∷ l))
  where
    pick : (b : Bool) → farther d (cond b (stair (e.gap + gaps_of l) k ∷ stair r 0 ∷ []) (e ∷ pushed k r l))
        ≡ cond b (stair (d + e.gap + gaps_of l) k ∷ stair r 0 ∷ []) (stair (d + e.gap) e.cap ∷ pushed k r l)
    pick true = same_gap k (stair r 0 ∷ []) (omega arith)
    pick false = refl

-- and so may the junction where a block begins: alone before the end,
push_last : (k r c : ℕ) (e : Stair) → raised c (pushed k r (e ∷ [])) ≡ pushed k r (raised c (e ∷ []))
unfolding all_hidden pushed gaps_of
push_last k r c e = pick (leb (e.gap + 0 + k) c)
  where
    pick : (b : Bool) → cond b (stair (e.gap + 0) k ∷ stair r 0 ∷ []) (stair 0 c ∷ stair (e.gap + 0) k ∷ stair r 0 ∷ [])
        ≡ cond b (stair (0 + (e.gap + 0)) k ∷ stair r 0 ∷ []) (stair 0 c ∷ stair (e.gap + 0) k ∷ stair r 0 ∷ [])
    pick true = same_gap k (stair r 0 ∷ []) (omega arith)
    pick false = refl

-- or before other stairs.
module _ (k r c : ℕ) (e f : Stair) (l : List Stair) where
  abbrev all : List Stair
  all = e ∷ f ∷ l

  abbrev new : List Stair
  new = stair (gaps_of all) k ∷ stair r 0 ∷ []

  -- what is pushed on some stairs is some
  hides_pushed : hides c (e ∷ pushed k r (f ∷ l)) ≡ leb (e.gap + e.cap) c
  unfolding pushed
  hides_pushed = pick (all_hidden k (f ∷ l))
    where
      pick : (b : Bool) → hides c (e ∷ cond b (stair (gaps_of (f ∷ l)) k ∷ stair r 0 ∷ []) (f ∷ pushed k r l)) ≡ leb (e.gap + e.cap) c
      pick true = refl
      pick false = refl

  -- where the new junction hides all, it hides what the first of them hides
  hidden_more : all_hidden k all ≡ true → leb (e.gap + e.cap) c ≡ true → leb (gaps_of all + k) c ≡ true
  unfolding all_hidden gaps_of
  hidden_more p q = le-leb (gaps_of all + k) c (omega (arith, leb-true (gaps_of (f ∷ l) + k) e.cap (and_right (all_hidden k (f ∷ l)) p), leb-true (e.gap + e.cap) c q))
    where
      and_right : (a : Bool) {b : Bool} → a && b ≡ true → b ≡ true
      and_right true h = h
      and_right false h = absurd (let z : ◌≡◌ {A = ℕ} 0 1 = cc in omega arith)

  push_more : (a h : Bool) → all_hidden k all ≡ a → leb (e.gap + e.cap) c ≡ h → raised c (pushed k r all) ≡ pushed k r (raised c all)
  unfolding all_hidden gaps_of
  push_more true true p q =
      ap (raised c) (pushed_by k r e (f ∷ l) p) ∙ raised_by c new (hidden_more p q)
      ∙ sym (ap (pushed k r) (raised_by c all q) ∙ pushed_by k r e (f ∷ l) p)
  push_more true false p q =
      ap (raised c) (pushed_by k r e (f ∷ l) p) ∙ pick (leb (gaps_of all + k) c)
      ∙ sym (ap (pushed k r) (raised_by c all q) ∙ pushed_by k r (stair 0 c) all (ap (λ (b : Bool). b && leb (gaps_of all + k) c) p))
    where
      pick : (b : Bool) → cond b new (stair 0 c ∷ new) ≡ cond b (stair (0 + gaps_of all) k ∷ stair r 0 ∷ []) (stair 0 c ∷ pushed k r all)
      pick true = same_gap k (stair r 0 ∷ []) (omega arith)
      pick false = ap (λ (m : List Stair). stair 0 c ∷ m) (sym (pushed_by k r e (f ∷ l) p))
  push_more false true p q =
      ap (raised c) (pushed_by k r e (f ∷ l) p) ∙ raised_by c (e ∷ pushed k r (f ∷ l)) (hides_pushed ∙ q)
      ∙ sym (ap (pushed k r) (raised_by c all q) ∙ pushed_by k r e (f ∷ l) p)
  push_more false false p q =
      ap (raised c) (pushed_by k r e (f ∷ l) p) ∙ raised_by c (e ∷ pushed k r (f ∷ l)) (hides_pushed ∙ q)
      ∙ sym (ap (pushed k r) (raised_by c all q)
      ∙ pushed_by k r (stair 0 c) all (ap (λ (b : Bool). b && leb (gaps_of all + k) c) p)
      ∙ ap (λ (m : List Stair). stair 0 c ∷ m) (pushed_by k r e (f ∷ l) p))

push_raised : (k r c : ℕ) (l : List Stair) → Ended l → raised c (pushed k r l) ≡ pushed k r (raised c l)
push_raised k r c [] h = absurd (omega arith)
push_raised k r c (e ∷ []) h = push_last k r c e
push_raised k r c (e ∷ f ∷ l) h = push_more k r c e f l _ _ refl refl

-- The stairs of a line with one block more.
pub stairs_last : (line : List Span) (s : Span) → stairs_of (line ++ (s ∷ [])) ≡ pushed s.cap s.reach (stairs_of line)
unfolding stairs_of pushed all_hidden gaps_of
stairs_last [] s = λ i. stair 0 s.cap ∷ stair (zero_more i) 0 ∷ []
  where
    zero_more : s.reach + 0 ≡ s.reach
    zero_more = omega arith
stairs_last (x ∷ line) s =
    ap (λ (l : List Stair). raised x.cap (farther x.reach l)) (stairs_last line s)
    ∙ ap (raised x.cap) (push_farther s.cap s.reach x.reach (stairs_of line))
    ∙ push_raised s.cap s.reach x.cap (farther x.reach (stairs_of line)) (farther_ended x.reach (stairs_of line) (stairs_ended line))
