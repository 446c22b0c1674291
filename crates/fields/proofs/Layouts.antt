-- Fields side by side: `joined` and `split` are inverse, at any layout. From the laws of powers.
use mathlib.Core.Path.{◌≡◌, refl, sym, ap}
use Prim.Native.Nat.{ℕ, zero, suc, ◌+◌, ◌*◌, ◌/◌, ◌%◌, ◌^◌, ◌≤◌, ◌<◌}
use native.Mathlib.Nat.{mod-one, mod-eq_of_lt, le_refl, add_assoc, add-zero, suc_inj}
use native.Mathlib.Omega.{arith}
use mathlib.Core.List.{List, ◌∷◌, ◌++◌, []}
use lib.ListN.{length, get_or, take, drop}
use lib.Pow as Pow
use lib.Pow.{pow-add}
use lib.Arith.{digits_lt}
use Rattle.fields.specs.Layouts.{total, joined, split, InWidths}
use Rattle.fields.specs.Fields.{part_of}
use Rattle.fields.proofs.Parts.{part_lower}

-- Two layouts side by side: the first is above the second.
pub total_append : (ws us : List ℕ) → total (ws ++ us) ≡ total ws + total us
total_append [] us = omega arith
total_append (w ∷ ws) us = rw (total_append ws us) (omega arith)

pub joined_append : (ws us vs ts : List ℕ) → length ws ≡ length vs
    → joined (ws ++ us) (vs ++ ts) ≡ joined ws vs * 2 ^ total us + joined us ts
unfolding joined
joined_append [] us [] ts e = omega arith
joined_append [] us (v ∷ vs) ts e = absurd (omega arith)
joined_append (w ∷ ws) us [] ts e = absurd (omega arith)
joined_append (w ∷ ws) us (v ∷ vs) ts e =
    rw (joined_append ws us vs ts (suc_inj e), total_append ws us, pow-add 2 (total ws) (total us)) (omega arith)

pub split_append : (ws us : List ℕ) (n : ℕ) → split (ws ++ us) n ≡ split ws (n / 2 ^ total us) ++ split us n
unfolding split
split_append [] us n = refl
split_append (w ∷ ws) us n =
    let e : total (ws ++ us) ≡ total us + total ws = rw (total_append ws us) (omega arith) in
    rw (split_append ws us n, e, Pow.shr-shr n (total us) (total ws))

-- There are as many values as widths.
pub length_split : (ws : List ℕ) (n : ℕ) → length (split ws n) ≡ length ws
unfolding split
length_split [] n = refl
length_split (w ∷ ws) n = ap suc (length_split ws n)

-- Values that fit their widths make a number of the layout's width.
pub joined_lt : (ws vs : List ℕ) → InWidths ws vs → joined ws vs < 2 ^ total ws
unfolding joined
joined_lt [] [] h = omega arith
joined_lt [] (v ∷ vs) h = absurd h
joined_lt (w ∷ ws) [] h = absurd h
joined_lt (w ∷ ws) (v ∷ vs) h = rw (pow-add 2 w (total ws)) (digits_lt h.0 (joined_lt ws vs h.1))

-- Bits above the layout play no part.
pub split_above : (a : ℕ) (ws : List ℕ) (n : ℕ) {k : ℕ} → total ws ≤ k → split ws (a * 2 ^ k + n) ≡ split ws n
unfolding split
split_above a [] n h = refl
split_above a (w ∷ ws) n {k} h = rw (part_lower a n (total ws) w {t = k} (omega arith), split_above a ws n {k = k} (omega arith))

-- Splitting what was joined gives the values back.
pub split_joined : (ws vs : List ℕ) → InWidths ws vs → split ws (joined ws vs) ≡ vs
unfolding joined split
split_joined [] [] h = refl
split_joined [] (v ∷ vs) h = absurd h
split_joined (w ∷ ws) [] h = absurd h
split_joined (w ∷ ws) (v ∷ vs) h =
    rw (
      Pow.high v (total ws) (joined_lt ws vs h.1),
      mod-eq_of_lt h.0,
      split_above v ws (joined ws vs) (le_refl (total ws)),
      split_joined ws vs h.1,
    )

-- Joining what was split gives the number back, but for bits above the layout.
pub joined_split : (ws : List ℕ) (n : ℕ) → joined ws (split ws n) ≡ n % 2 ^ total ws
unfolding joined split
joined_split [] n = sym (mod-one n)
joined_split (w ∷ ws) n = rw (joined_split ws n) (sym (Pow.mod-pow-add n w (total ws)))

-- The part at index i is what the number has above the widths after it.
pub split_at : (ws : List ℕ) (n i : ℕ) → get_or (split ws n) i 0 ≡ part_of n (total (drop (suc i) ws)) (get_or ws i 0)
unfolding split
split_at [] n i = sym (mod-one (n / 1))
split_at (w ∷ ws) n zero = refl
split_at (w ∷ ws) n (suc i) = split_at ws n i

-- The widths before index i, the one there and those after it make the whole.
pub total_at : (ws : List ℕ) (i : ℕ) → total (take i ws) + (get_or ws i 0 + total (drop (suc i) ws)) ≡ total ws
total_at [] zero = refl
total_at [] (suc i) = refl
total_at (w ∷ ws) zero = omega arith
total_at (w ∷ ws) (suc i) = omega (arith, total_at ws i)

-- A field of a + b bits that is cut between two words: its a high bits end the one, its b low bits begin the other.
pub joined_cut : (ws us vs ts : List ℕ) (a b v : ℕ) → length ws ≡ length vs
    → joined (ws ++ (a + b) ∷ us) (vs ++ v ∷ ts)
    ≡ joined (ws ++ a ∷ []) (vs ++ v / 2 ^ b ∷ []) * 2 ^ (b + total us) + joined (b ∷ us) (v % 2 ^ b ∷ ts)
unfolding joined
joined_cut ws us vs ts a b v e =
    rw (
      joined_append ws ((a + b) ∷ us) vs (v ∷ ts) e,
      joined_append ws (a ∷ []) vs (v / 2 ^ b ∷ []) e,
      add_assoc a b (total us),
      pow-add 2 a (b + total us),
      pow-add 2 b (total us),
      add-zero a,
    )
    (omega (arith, ap (λ (x : ℕ). x * 2 ^ total us) (Pow.split v b)))
