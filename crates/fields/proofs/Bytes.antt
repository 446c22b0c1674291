-- Bytes and the number that they write. From the definitions and the laws of powers.
use mathlib.Core.Path.{◌≡◌, refl, sym, ap, ◌∙◌}
use Prim.Native.Nat.{ℕ, zero, suc, ◌+◌, ◌-◌, ◌*◌, ◌/◌, ◌%◌, ◌^◌, ◌≤◌, ◌<◌}
use native.Mathlib.Nat.{mod-lt, add-zero, lt_of_lt_of_le, add_assoc, div-add-mod', div-one, mod-mod, le_of_eq, zero-add}
use native.Mathlib.Omega.{arith}
use mathlib.Core.List.{List, ◌∷◌, ◌++◌, append_assoc, append-nil, []}
use lib.ListN.{length, get_or, take, drop, set, length-append, length-drop, take-append-drop, length-replicate, replicate-append-replicate}
use lib.Seq.{length-take-le, drop-cons, take_at, drop_at, get_or-drop, take-set-le, drop-set-lt, drop-drop, take-add, lt-length-set, get_or-set_same}
use lib.Pow as Pow
use lib.Pow.{pow_pos, pow_mono}
use Rattle.fields.specs.Bytes.{Bytes, eights, number_of, bytes_of, with_bytes}
use Rattle.fields.specs.Fields.{part_of}
use Rattle.fields.specs.Layouts.{total, joined, split, InWidths}
use Rattle.fields.proofs.Layouts.{joined_lt, joined_append, joined_split, split_joined, split_append, split_above, length_split}

-- Lists of bytes: one byte more, one fewer, parts, lists side by side, and the bytes of a number.
pub bytes_cons : {b : ℕ} {s : List ℕ} → b < 256 → Bytes s → Bytes (b ∷ s)
bytes_cons {b} {s} l h = record { each = at }
  where
    at : (i : ℕ) → get_or (b ∷ s) i 0 < 256
    at zero = l
    at (suc i) = h.each i

pub bytes_tail : {b : ℕ} {s : List ℕ} → Bytes (b ∷ s) → Bytes s
bytes_tail h = record { each = λ i. h.each (suc i) }

pub bytes_drop : (n : ℕ) {s : List ℕ} → Bytes s → Bytes (drop n s)
bytes_drop n {s} h = record { each = λ i. rw (get_or-drop n s i 0) (h.each (n + i)) }

pub bytes_take : (n : ℕ) {s : List ℕ} → Bytes s → Bytes (take n s)
bytes_take zero h = record { each = λ i. omega arith }
bytes_take (suc n) {s = []} h = h
bytes_take (suc n) {s = b ∷ s} h = bytes_cons (h.each 0) (bytes_take n (bytes_tail h))

pub bytes_both : {s t : List ℕ} → Bytes s → Bytes t → Bytes (s ++ t)
bytes_both {s = []} h g = g
bytes_both {s = b ∷ s} h g = bytes_cons (h.each 0) (bytes_both (bytes_tail h) g)

pub bytes_are : (n v : ℕ) → Bytes (bytes_of n v)
unfolding bytes_of split
bytes_are zero v = record { each = λ i. omega arith }
bytes_are (suc n) v = bytes_cons (mod-lt (v / 2 ^ total (eights n)) (pow_pos 8)) (bytes_are n v)

-- Bytes are the values of a layout of eights, which is 8 bits wide for each.
in_eights : {s : List ℕ} → Bytes s → InWidths (eights (length s)) s
in_eights {s = []} h = tt
in_eights {s = b ∷ s} h = (h.each 0, in_eights (bytes_tail h))

total_eights : (n : ℕ) → total (eights n) ≡ 8 * n
total_eights zero = refl
total_eights (suc n) = omega (arith, total_eights n)

-- n bytes are n.
pub length_bytes : (n v : ℕ) → length (bytes_of n v) ≡ n
unfolding bytes_of
length_bytes n v = length_split (eights n) v ∙ length-replicate n 8

-- The number of n bytes has 8 * n bits.
pub number_lt : {s : List ℕ} → Bytes s → number_of s < 2 ^ (8 * length s)
unfolding number_of
number_lt {s} h = rw (total_eights (length s)) at (joined_lt (eights (length s)) s (in_eights h))

-- Bytes side by side: the first are above the others.
pub number_append : (s t : List ℕ) → number_of (s ++ t) ≡ number_of s * 2 ^ (8 * length t) + number_of t
unfolding number_of
number_append s t =
    rw (
      length-append s t,
      ← replicate-append-replicate {A = ℕ} (length s) (length t) 8,
      joined_append (eights (length s)) (eights (length t)) s t (length-replicate (length s) 8),
      total_eights (length t),
    )

-- The number of the bytes of v is v, but for bits that the bytes do not hold.
pub number_bytes : (n v : ℕ) → number_of (bytes_of n v) ≡ v % 2 ^ (8 * n)
unfolding bytes_of number_of
number_bytes n v = rw (length_split (eights n) v, length-replicate {A = ℕ} n 8, joined_split (eights n) v, total_eights n)

-- The bytes of the number of n bytes are these bytes.
pub bytes_number : {s : List ℕ} → Bytes s → bytes_of (length s) (number_of s) ≡ s
unfolding bytes_of number_of
bytes_number {s} h = split_joined (eights (length s)) s (in_eights h)

-- The bytes of two numbers side by side.
pub bytes_append : (m n a v : ℕ) → v < 2 ^ (8 * n) → bytes_of (m + n) (a * 2 ^ (8 * n) + v) ≡ bytes_of m a ++ bytes_of n v
unfolding bytes_of
bytes_append m n a v h =
    rw (
      ← replicate-append-replicate {A = ℕ} m n 8,
      split_append (eights m) (eights n) (a * 2 ^ (8 * n) + v),
      total_eights n,
      Pow.high a (8 * n) h,
      split_above a (eights n) v {k = 8 * n} (le_of_eq (total_eights n)),
    )

-- A part that lies in s is as long as it says.
pub length_part : (s : List ℕ) (from n : ℕ) → from + n ≤ length s → length (take n (drop from s)) ≡ n
length_part s from n l = length-take-le n (drop from s) (omega (arith, length-drop from s))

-- A number by its bytes before, from and behind a place: of s with the n bytes x from byte `from` on, and of s itself.
number_parts : (s x : List ℕ) (from n : ℕ) → length x ≡ n
    → number_of (take from s ++ x ++ drop (from + n) s)
    ≡ (number_of (take from s) * 2 ^ (8 * n) + number_of x) * 2 ^ (8 * (length s - (from + n))) + number_of (drop (from + n) s)
number_parts s x from n e =
    rw (number_append (take from s ++ x) (drop (from + n) s), number_append (take from s) x, length-drop (from + n) s, e)

number_whole : (s : List ℕ) (from n : ℕ) → from + n ≤ length s
    → number_of s
    ≡ (number_of (take from s) * 2 ^ (8 * n) + number_of (take n (drop from s))) * 2 ^ (8 * (length s - (from + n))) + number_of (drop (from + n) s)
number_whole s from n l =
    ap number_of (sym (take-append-drop (from + n) s) ∙ ap (λ (p : List ℕ). p ++ drop (from + n) s) (take-add from n s))
    ∙ number_parts s (take n (drop from s)) from n (length_part s from n l)

-- The number of the n bytes from byte `from` on is 8 * n bits of the whole number. Those before and behind them are the rest.
module _ {s : List ℕ} (from n : ℕ) (h : Bytes s) (l : from + n ≤ length s) where
  abbrev behind : ℕ
  behind = 8 * (length s - (from + n))

  behind_lt : number_of (drop (from + n) s) < 2 ^ behind
  behind_lt = rw length-drop at (number_lt (bytes_drop (from + n) h))

  pub part_lt : number_of (take n (drop from s)) < 2 ^ (8 * n)
  part_lt = rw (length_part s from n l) at (number_lt (bytes_take n (bytes_drop from h)))

  from_front : number_of s / 2 ^ behind ≡ number_of (take from s) * 2 ^ (8 * n) + number_of (take n (drop from s))
  from_front =
      ap (λ (x : ℕ). x / 2 ^ behind) (number_whole s from n l)
      ∙ Pow.high (number_of (take from s) * 2 ^ (8 * n) + number_of (take n (drop from s))) behind behind_lt

  pub number_part : number_of (take n (drop from s)) ≡ part_of (number_of s) behind (8 * n)
  number_part = sym (rw (from_front, Pow.low (number_of (take from s)) (8 * n) part_lt))

  pub number_before : number_of (take from s) ≡ number_of s / 2 ^ behind / 2 ^ (8 * n)
  number_before = sym (rw (from_front, Pow.high (number_of (take from s)) (8 * n) part_lt))

  pub number_behind : number_of (drop (from + n) s) ≡ number_of s % 2 ^ behind
  number_behind =
      sym (ap (λ (x : ℕ). x % 2 ^ behind) (number_whole s from n l)
      ∙ Pow.low (number_of (take from s) * 2 ^ (8 * n) + number_of (take n (drop from s))) behind behind_lt)

-- Bytes read in two steps: the number of the first m goes up by n bytes.
pub number_add : (s : List ℕ) (from m n : ℕ) {high low : ℕ} → high ≡ number_of (take m (drop from s))
    → low ≡ number_of (take n (drop (from + m) s)) → from + m + n ≤ length s
    → high * 2 ^ (8 * n) + low ≡ number_of (take (m + n) (drop from s))
number_add s from m n e f l =
    rw (
      e,
      f,
      take-add m n (drop from s),
      drop-drop m from s,
      number_append (take m (drop from s)) (take n (drop (from + m) s)),
      length_part s (from + m) n l,
    )

-- One byte more, as a loop reads them; the number so far fits a word where there are at most eight.
pub number_next : (s : List ℕ) (i : ℕ) {number byte : ℕ} → number ≡ number_of (take i s) → byte ≡ get_or s i 0
    → i < length s → number * 256 + byte ≡ number_of (take (i + 1) s)
unfolding number_of joined
number_next s i e f l =
    let one : number_of (take 1 (drop (0 + i) s)) ≡ get_or s i 0 = rw (zero-add i, drop-cons s i 0 l) (omega arith) in
    number_add s 0 i 1 e (f ∙ sym one) (omega arith)

pub next_lt : {s : List ℕ} (i : ℕ) {number : ℕ} → Bytes s → number ≡ number_of (take i s) → i < length s → i < 8
    → number * 256 + get_or s i 0 < 2 ^ 64
next_lt {s} i h e l k =
    rw (number_next s i e refl l) (lt_of_lt_of_le (part_lt 0 (i + 1) h (omega arith)) (pow_mono {i = 8 * (i + 1)} {j = 64} (omega arith)))

-- The lowest byte stands last.
bytes_last : (n v : ℕ) → 0 < n → bytes_of n v ≡ bytes_of (n - 1) (v / 256) ++ v % 256 ∷ []
unfolding bytes_of split
bytes_last n v p =
    let e : n ≡ n - 1 + 1 = omega arith in
    ap (λ (k : ℕ). bytes_of k v) e ∙ ap (bytes_of (n - 1 + 1)) (sym (div-add-mod' v 256))
    ∙ bytes_append (n - 1) 1 (v / 256) (v % 256) (mod-lt v (pow_pos 8)) ∙ rw (div-one (v % 256), mod-mod v 256)

-- One byte fewer, as a loop writes them from the last to the first: with the lowest byte stored, those above it are left to write.
pub store_next : (s : List ℕ) (from n v : ℕ) → 0 < n → from + n ≤ length s
    → with_bytes (set s (from + (n - 1)) (v % 256)) from (n - 1) (v / 256) ≡ with_bytes s from n v
unfolding with_bytes
store_next s from n v p k =
    let at : ℕ = from + (n - 1) in
    let t : List ℕ = set s at (v % 256) in
    let l : at < length s = omega arith in
    let e : suc at ≡ from + n = omega arith in
    let rest : drop at t ≡ v % 256 ∷ drop (from + n) s =
    rw (
      drop-cons t at 0 (lt-length-set s at (v % 256) l),
      get_or-set_same s at (v % 256) 0 l,
      drop-set-lt (suc at) s at (v % 256) (omega arith),
      e,
    ) in
    rw (rest, take-set-le from s at (v % 256) (omega arith), bytes_last n v p) (simp append_assoc)

-- No byte to write.
pub store_none : (s : List ℕ) (from v : ℕ) → with_bytes s from 0 v ≡ s
unfolding with_bytes bytes_of split
store_none s from v = rw (append-nil (take from s), add-zero from, take-append-drop from s)

-- Writing bytes keeps the length, bytes stay bytes, and the number is the one written between those before and behind it.
pub length_with : (s : List ℕ) (from n v : ℕ) → from + n ≤ length s → length (with_bytes s from n v) ≡ length s
unfolding with_bytes
length_with s from n v l =
    rw (
      length-append (take from s ++ bytes_of n v) (drop (from + n) s),
      length-append (take from s) (bytes_of n v),
      length-take-le from s (omega arith),
      length_bytes n v,
      length-drop (from + n) s,
    ) (omega arith)

pub bytes_with : {s : List ℕ} (from n v : ℕ) → Bytes s → Bytes (with_bytes s from n v)
unfolding with_bytes
bytes_with from n v h = bytes_both (bytes_both (bytes_take from h) (bytes_are n v)) (bytes_drop (from + n) h)

pub number_with : (s : List ℕ) (from n v : ℕ)
    → number_of (with_bytes s from n v)
    ≡ (number_of (take from s) * 2 ^ (8 * n) + v % 2 ^ (8 * n)) * 2 ^ (8 * (length s - (from + n))) + number_of (drop (from + n) s)
unfolding with_bytes
number_with s from n v = rw (number_parts s (bytes_of n v) from n (length_bytes n v), number_bytes n v)

-- What stands before, at and behind the place that was written.
module _ (s : List ℕ) (from n v : ℕ) (l : from ≤ length s) where
  front_length : length (take from s ++ bytes_of n v) ≡ from + n
  front_length = rw (length-append (take from s) (bytes_of n v), length-take-le from s l, length_bytes n v)

  pub take_with : take from (with_bytes s from n v) ≡ take from s
  unfolding with_bytes
  take_with =
      rw (
        append_assoc (take from s) (bytes_of n v) (drop (from + n) s),
        take_at (take from s) (bytes_of n v ++ drop (from + n) s) from (length-take-le from s l),
      )

  pub written_with : take n (drop from (with_bytes s from n v)) ≡ bytes_of n v
  unfolding with_bytes
  written_with =
      rw (
        append_assoc (take from s) (bytes_of n v) (drop (from + n) s),
        drop_at (take from s) (bytes_of n v ++ drop (from + n) s) from (length-take-le from s l),
        take_at (bytes_of n v) (drop (from + n) s) n (length_bytes n v),
      )

  pub drop_with : drop (from + n) (with_bytes s from n v) ≡ drop (from + n) s
  unfolding with_bytes
  drop_with = drop_at (take from s ++ bytes_of n v) (drop (from + n) s) (from + n) front_length

  -- The number that was written is read.
  pub number_stored : number_of (take n (drop from (with_bytes s from n v))) ≡ v % 2 ^ (8 * n)
  number_stored = rw (written_with, number_bytes n v)

-- Numbers written one behind the other are one number: t is s with a from byte `from` on, and u is t with v behind it.
pub with_next : (s : List ℕ) (from m n a v : ℕ) {t u : List ℕ} → t ≡ with_bytes s from m a → u ≡ with_bytes t (from + m) n v
    → from + m ≤ length s → v < 2 ^ (8 * n) → u ≡ with_bytes s from (m + n) (a * 2 ^ (8 * n) + v)
unfolding with_bytes
with_next s from m n a v {t} {u} e f l h =
    let front : List ℕ = take from s ++ bytes_of m a in
    let size : length front ≡ from + m = front_length s from m a (omega arith) in
    f ∙ rw (
      e,
      take_at front (drop (from + m) s) (from + m) size,
      ← drop-drop n (from + m) (front ++ drop (from + m) s),
      drop_at front (drop (from + m) s) (from + m) size,
      drop-drop n (from + m) s,
      bytes_append m n a v h,
      ← add_assoc from m n,
    ) (simp append_assoc)
