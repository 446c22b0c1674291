-- Fields of bytes, read and written: at any bit and of any width. From the laws of bits in a number (`Parts`) and of bytes (`Bytes`).
use mathlib.Core.Path.{◌≡◌, refl, sym, ap, ◌∙◌}
use mathlib.Core.Logic.{◌⊎◌, inl, inr}
use Prim.Native.Nat.{ℕ, suc, ◌+◌, ◌-◌, ◌*◌, ◌/◌, ◌%◌, ◌^◌, ◌≤◌, ◌<◌}
use native.Mathlib.Nat.{mod-lt, mod-eq_of_lt}
use native.Mathlib.Omega.{arith}
use mathlib.Core.List.{List}
use lib.ListN.{length, get_or, take, drop}
use lib.Pow.{pow_pos}
use Rattle.fields.specs.Layouts.{total, joined, split, InWidths}
use Rattle.fields.specs.Bytes.{Bytes, number_of, with_bytes}
use Rattle.fields.specs.Fields.{part_of, with_part, below, field_of, with_field}
use Rattle.fields.proofs.Parts.{part_part, part_with, with_part_lem, part_above, part_below, with_def, with_lt, with_with}
use Rattle.fields.proofs.Layouts.{split_at, total_at, joined_lt, split_joined}
use Rattle.fields.proofs.Bytes.{number_lt, number_bytes, bytes_number, length_bytes, number_part, number_before, number_behind, number_with, length_part, length_with, bytes_with, number_stored}

-- A field fits its width.
pub field_lt : (s : List ℕ) (at width : ℕ) → field_of s at width < 2 ^ width
unfolding field_of
field_lt s at width = mod-lt (number_of s / 2 ^ below s (at + width)) (pow_pos width)

-- The values of a layout that fills the bytes are the fields, each at the sum of the widths before it.
pub split_field : (s ws : List ℕ) (i : ℕ) → total ws ≡ 8 * length s
    → get_or (split ws (number_of s)) i 0 ≡ field_of s (total (take i ws)) (get_or ws i 0)
unfolding field_of
split_field s ws i e =
    let b : total (drop (suc i) ws) ≡ below s (total (take i ws) + get_or ws i 0) = omega (arith, total_at ws i) in
    rw (← b) (split_at ws (number_of s) i)

-- Writing keeps the length.
pub length_written : (s : List ℕ) (at width v : ℕ) → length (with_field s at width v) ≡ length s
unfolding with_field
length_written s at width v = length_bytes (length s) (with_part (number_of s) (below s (at + width)) width v)

module _ {s : List ℕ} (h : Bytes s) where
  -- A field of the n bytes from byte `from` on, `skip` bits after their first, is a field of the whole: by the number of those
  -- bytes, and by the bytes.
  pub field_number : (from n skip width : ℕ) {at : ℕ} → 8 * from + skip ≡ at → from + n ≤ length s → skip + width ≤ 8 * n
      → part_of (number_of (take n (drop from s))) (8 * n - (skip + width)) width ≡ field_of s at width
  unfolding field_of
  field_number from n skip width {at} a l k =
      let high : ℕ = 8 * (length s - (from + n)) in
      let e : high + (8 * n - (skip + width)) ≡ below s (at + width) = omega arith in
      rw (number_part from n h l, part_part (number_of s) high (8 * n - (skip + width)) width {W = 8 * n} (omega arith), e)

  pub field_part : (from n skip width : ℕ) {at : ℕ} → 8 * from + skip ≡ at → from + n ≤ length s → skip + width ≤ 8 * n
      → field_of (take n (drop from s)) skip width ≡ field_of s at width
  unfolding field_of
  field_part from n skip width a l k = rw (length_part s from n l) (field_number from n skip width a l k)

  -- The values of a layout that fills the n bytes from byte `from` on are fields of the whole, each at the sum of the widths before it.
  pub split_part : (from n : ℕ) (ws : List ℕ) (i : ℕ) → from + n ≤ length s → total ws ≡ 8 * n
      → get_or (split ws (number_of (take n (drop from s)))) i 0 ≡ field_of s (8 * from + total (take i ws)) (get_or ws i 0)
  split_part from n ws i l e =
      split_field (take n (drop from s)) ws i (e ∙ ap (λ (m : ℕ). 8 * m) (sym (length_part s from n l)))
      ∙ field_part from n (total (take i ws)) (get_or ws i 0) refl l (omega (arith, total_at ws i))

  -- Whole bytes are a field.
  pub number_field : (from n : ℕ) → from + n ≤ length s → number_of (take n (drop from s)) ≡ field_of s (8 * from) (8 * n)
  unfolding field_of
  number_field from n l =
      let e : below s (8 * from + 8 * n) ≡ 8 * (length s - (from + n)) = omega arith in
      rw e (number_part from n h l)

  module _ (at width v : ℕ) (l : at + width ≤ 8 * length s) where
    -- The number of the bytes after a write.
    pub number_written : number_of (with_field s at width v) ≡ with_part (number_of s) (below s (at + width)) width v
    unfolding with_field
    number_written =
        number_bytes (length s) (with_part (number_of s) (below s (at + width)) width v)
        ∙ mod-eq_of_lt (with_lt (number_of s) (below s (at + width)) width v (omega arith) (number_lt h))

    -- What was written is read.
    pub read_written : field_of (with_field s at width v) at width ≡ v % 2 ^ width
    unfolding field_of
    read_written = rw (number_written, length_written s at width v) (part_with (number_of s) (below s (at + width)) width v)

    -- Every other bit stays: a field that ends before or begins behind the one written reads as before.
    pub read_other : (at' width' : ℕ) → at' + width' ≤ 8 * length s → (at' + width' ≤ at) ⊎ (at + width ≤ at')
        → field_of (with_field s at width v) at' width' ≡ field_of s at' width'
    unfolding field_of
    read_other at' width' k (inl b) =
        rw (number_written, length_written s at width v) (part_above (number_of s) (below s (at + width)) width v width' (omega arith))
    read_other at' width' k (inr b) =
        rw (number_written, length_written s at width v)
        (part_below (number_of s) (below s (at + width)) width v (below s (at' + width')) width' (omega arith))

  -- Writing what was read changes nothing.
  pub write_read : (at width : ℕ) → with_field s at width (field_of s at width) ≡ s
  unfolding with_field field_of
  write_read at width = rw (with_part_lem (number_of s) (below s (at + width)) width) (bytes_number h)

  -- Bytes written are a field written.
  pub write_bytes : (from n v : ℕ) → from + n ≤ length s → with_bytes s from n v ≡ with_field s (8 * from) (8 * n) v
  unfolding with_field
  write_bytes from n v l =
      let high : ℕ = 8 * (length s - (from + n)) in
      let e : below s (8 * from + 8 * n) ≡ high = omega arith in
      let number : number_of (with_bytes s from n v) ≡ with_part (number_of s) high (8 * n) v =
      rw (number_with s from n v, with_def (number_of s) high (8 * n) v refl refl, number_before from n h l, number_behind from n h l) in
      sym (bytes_number (bytes_with from n v h)) ∙ rw (length_with s from n v l, number, e)

  -- A field that lies in the n bytes from byte `from` on, `skip` bits after their first, is written by writing those bytes alone.
  pub write_part : (from n skip width v : ℕ) {at : ℕ} → 8 * from + skip ≡ at → from + n ≤ length s → skip + width ≤ 8 * n
      → with_bytes s from n (with_part (number_of (take n (drop from s))) (8 * n - (skip + width)) width v) ≡ with_field s at width v
  unfolding with_field
  write_part from n skip width v {at} a l k =
      let high : ℕ = 8 * (length s - (from + n)) in
      let low : ℕ = 8 * n - (skip + width) in
      let e : below s (8 * from + 8 * n) ≡ high = omega arith in
      let f : below s (at + width) ≡ low + high = omega arith in
      write_bytes from n (with_part (number_of (take n (drop from s))) low width v) l
      ∙ rw (e, f, number_part from n h l, with_with (number_of s) high low width v {W = 8 * n} (omega arith))

-- The values written by a layout that fills the n bytes from byte `from` on are read.
module _ (from n : ℕ) (ws : List ℕ) (e : total ws ≡ 8 * n) where
  pub split_stored : (s vs : List ℕ) → from ≤ length s → InWidths ws vs
      → split ws (number_of (take n (drop from (with_bytes s from n (joined ws vs))))) ≡ vs
  split_stored s vs l h =
      let fits : joined ws vs < 2 ^ (8 * n) = rw e at (joined_lt ws vs h) in
      rw (number_stored s from n (joined ws vs) l, mod-eq_of_lt fits) (split_joined ws vs h)
