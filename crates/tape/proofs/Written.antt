-- A record written in its place on a tape: its 16 bytes are stored, and all else stays. From the laws of bytes and of one record.
use mathlib.Core.Logic.{◌⊎◌, inl, inr}
use mathlib.Core.Path.{◌≡◌, refl, sym, ap, subst, ◌∙◌}
use mathlib.Core.List.{List, ◌∷◌, ◌++◌, append_assoc, append-nil, []}
use Prim.Native.Nat.{ℕ, zero, suc, ◌+◌, ◌-◌, ◌*◌, ◌≤◌, ◌<◌, min}
use native.Mathlib.Decide.{ℕ_discrete, dec_le}
use native.Mathlib.Nat.{zero-min, min-zero, suc-min-suc, lt_of_not-le, le_of_eq, eq-zero-or-pos}
use native.Mathlib.Omega.{arith}
use borrow.Author.Tests.{ltb-false}
use borrow.Rule.Slice.PartMut.{mid_of, put_mid}
use lib.Dec.{lit<, ltb}
use lib.ListN.{length, take, drop, set, get_or, length-drop, length-set, take-append-drop, drop_of_length-le}
use lib.Seq.{take_all, take-nil, take-take, drop-drop, drop_at, length-take-le, get_or-set_same, get_or-set_other, ext_get_or}
use Rattle.fields.specs.Layouts.{split}
use Rattle.fields.specs.Bytes.{number_of, bytes_of, with_bytes}
use Rattle.fields.proofs.Bytes.{length_with, take_with, drop_with}
use Rattle.machine.specs.Lists.{limits_from}
use Rattle.machine.specs.Checks.{block_refusal}
use Rattle.machine.specs.declared.Block.{Block}
use Rattle.std.specs.Prelude.{Result, ⊤}
use Rattle.display.specs.declared.Refusal.{Refusal}
use Rattle.tape.specs.Tape.{limits_bytes, limits_layout, limits_at, zero_bits, record_bytes, record_layout, block_from, block_number, block_at, record_start, record_at, records_in, tape_blocks}
use Rattle.tape.specs.Answers.{limits_fault, record_write_refusal, record_written, tape_write_refusal, tape_written, Wrote, head_refusal, tape_refusal}
use Rattle.display.specs.Display.{Fault}
use Rattle.display.proofs.Answers.{at_zero, then_second, then_zero, not_picked}
use Rattle.tape.proofs.Answers.{enough}
use Rattle.tape.proofs.Faults.{length_blocks, get_d_blocks, tape_passed, tape_faultless}
use Rattle.tape.proofs.Trips.{record_taken, record_written_read, record_refused}

-- Bytes that lie in the first n of a list are those of its first n.
part_within : (a m n : ℕ) (s : List ℕ) → a + m ≤ n → take m (drop a s) ≡ take m (drop a (take n s))
part_within zero m n s h = sym (take-take m n s (omega arith))
part_within (suc a) m n [] h = rw (take-nil {A = ℕ} n)
part_within (suc a) m zero (x ∷ s) h = absurd (omega arith)
part_within (suc a) m (suc n) (x ∷ s) h = part_within a m n s (omega arith)

part_same : (a m n : ℕ) (s t : List ℕ) → a + m ≤ n → take n s ≡ take n t → take m (drop a s) ≡ take m (drop a t)
part_same a m n s t h e = part_within a m n s h ∙ ap (λ (u : List ℕ). take m (drop a u)) e ∙ sym (part_within a m n t h)

module _ (b : Block) (k : ℕ) (s : List ℕ) where
  -- An accepted call has a block that passes, and a record that lies in the tape.
  pub written_seen : tape_write_refusal b k s ≡ 0 → (block_refusal b ≡ 0) × (record_start k + record_bytes ≤ length s)
  unfolding tape_write_refusal record_write_refusal
  written_seen e =
      let z = then_zero (block_refusal b) e in
      let part = drop (record_start k) s in
      (z.0, omega (arith, length-drop (record_start k) s, ltb-false (length part) record_bytes (not_picked (ltb (length part) record_bytes) (lit< tt) z.1)))

  -- A block that passes is accepted where the tape has a record k.
  pub written_accepted : block_refusal b ≡ 0 → k < records_in s → tape_write_refusal b k s ≡ 0
  unfolding tape_write_refusal record_write_refusal
  written_accepted e h = then_second e (enough record_bytes (drop (record_start k) s) (rw length-drop (omega arith)))

  -- An accepted call stores the record's 16 bytes; a refused call changes no byte.
  pub written_stored : tape_write_refusal b k s ≡ 0 → tape_written b k s ≡ with_bytes s (record_start k) record_bytes (block_number b)
  unfolding tape_write_refusal tape_written record_written with_bytes
  written_stored e =
      let part = drop (record_start k) s in
      let bytes = bytes_of record_bytes (block_number b) in
      ap (λ (t : List ℕ). take (record_start k) s ++ t) (at_zero (bytes ++ drop record_bytes part) part e)
      ∙ sym (append_assoc (take (record_start k) s) bytes (drop record_bytes part))
      ∙ ap (λ (t : List ℕ). take (record_start k) s ++ bytes ++ t) (drop-drop record_bytes (record_start k) s)

  pub written_refused : 0 < tape_write_refusal b k s → tape_written b k s ≡ s
  unfolding tape_write_refusal tape_written
  written_refused h = ap (λ (t : List ℕ). take (record_start k) s ++ t) (record_refused b (drop (record_start k) s) h) ∙ take-append-drop (record_start k) s

  -- So what holds of the tape as it was and of the tape with these bytes holds of the tape that is left.
  either : (P : List ℕ → Type 0) → P s → (record_start k + record_bytes ≤ length s → P (with_bytes s (record_start k) record_bytes (block_number b))) → P (tape_written b k s)
  either P old new = by (eq-zero-or-pos (tape_write_refusal b k s))
    where
      by : (tape_write_refusal b k s ≡ 0) ⊎ (0 < tape_write_refusal b k s) → P (tape_written b k s)
      by (inl e) = subst P (sym (written_stored e)) (new (written_seen e).1)
      by (inr h) = subst P (sym (written_refused h)) old

  -- No byte is added or lost, so the tape has as many records; the bytes before the record stay, and those behind it do.
  pub written_length : length (tape_written b k s) ≡ length s
  written_length = either (λ (t : List ℕ). length t ≡ length s) refl (λ h. length_with s (record_start k) record_bytes (block_number b) h)

  pub written_records : records_in (tape_written b k s) ≡ records_in s
  written_records = rw written_length

  pub written_before : take (record_start k) (tape_written b k s) ≡ take (record_start k) s
  written_before = either (λ (t : List ℕ). take (record_start k) t ≡ take (record_start k) s) refl (λ h. take_with s (record_start k) record_bytes (block_number b) (omega arith))

  pub written_behind : drop (record_start k + record_bytes) (tape_written b k s) ≡ drop (record_start k + record_bytes) s
  written_behind = either (λ (t : List ℕ). drop (record_start k + record_bytes) t ≡ drop (record_start k + record_bytes) s) refl (λ h. drop_with s (record_start k) record_bytes (block_number b) (omega arith))

  -- The limits stay, and the zero bits with them, and what the head is refused by.
  limits_bytes_lem : take limits_bytes (tape_written b k s) ≡ take limits_bytes s
  limits_bytes_lem = part_same 0 limits_bytes (record_start k) (tape_written b k s) s (omega arith) written_before

  pub written_limits : limits_at (tape_written b k s) ≡ limits_at s
  unfolding limits_at
  written_limits = ap (λ (t : List ℕ). limits_from (split limits_layout (number_of t))) limits_bytes_lem

  pub written_zeros : zero_bits (tape_written b k s) ≡ zero_bits s
  unfolding zero_bits
  written_zeros = ap (λ (t : List ℕ). get_or (split limits_layout (number_of t)) 9 0) limits_bytes_lem

  pub written_head : head_refusal (tape_written b k s) ≡ head_refusal s
  unfolding head_refusal limits_fault
  written_head = rw (written_length, written_limits, written_zeros)

  -- Record k is the block where the call is accepted, and every other record stays.
  pub written_here : tape_write_refusal b k s ≡ 0 → record_at (tape_written b k s) k ≡ b
  unfolding tape_written
  written_here e =
      let seen = written_seen e in
      let part = drop (record_start k) s in
      let long : record_bytes ≤ length part = omega (arith, length-drop (record_start k) s, seen.1) in
      ap block_at (drop_at (take (record_start k) s) (record_written b part) (record_start k) (length-take-le (record_start k) s (omega arith)))
      ∙ (record_taken (record_written b part) (record_written_read b part seen.0 long)).1.0

  pub written_other : (j : ℕ) → (j ≡ k → ⊥) → record_at (tape_written b k s) j ≡ record_at s j
  unfolding block_at
  written_other j apart = elim (dec_le k j) [
    | yes h ↦ ap block_at (later (j - suc k) (omega arith))
    | no h ↦ ap (λ (t : List ℕ). block_from (split record_layout (number_of t))) (part_same (record_start j) record_bytes (record_start k) (tape_written b k s) s (omega (arith, lt_of_not-le h)) written_before)
  ]
    where
      later : (i : ℕ) → record_start j ≡ record_start k + record_bytes + record_bytes * i → drop (record_start j) (tape_written b k s) ≡ drop (record_start j) s
      later i e =
          ap (λ (n : ℕ). drop n (tape_written b k s)) e ∙ sym (drop-drop (record_bytes * i) (record_start k + record_bytes) (tape_written b k s))
          ∙ ap (drop (record_bytes * i)) written_behind
          ∙ drop-drop (record_bytes * i) (record_start k + record_bytes) s ∙ ap (λ (n : ℕ). drop n s) (sym e)

  -- So the tape's blocks are those that it had, with block k replaced.
  pub written_blocks : tape_write_refusal b k s ≡ 0 → tape_blocks (tape_written b k s) ≡ set (tape_blocks s) k b
  written_blocks e =
      let count : length (tape_blocks (tape_written b k s)) ≡ records_in s = length_blocks (tape_written b k s) ∙ written_records in
      ext_get_or b (tape_blocks (tape_written b k s)) (set (tape_blocks s) k b)
      (count ∙ sym (length_blocks s) ∙ sym (length-set (tape_blocks s) k b))
      (λ i h. elim (ℕ_discrete i k) [
        | yes p ↦ subst (λ (j : ℕ). get_or (tape_blocks (tape_written b k s)) j b ≡ get_or (set (tape_blocks s) k b) j b) (sym p) here
        | no p ↦ other i p (omega (arith, count, h))
      ])
    where
      here : get_or (tape_blocks (tape_written b k s)) k b ≡ get_or (set (tape_blocks s) k b) k b
      here =
          let long = (written_seen e).1 in
          get_d_blocks (tape_written b k s) b (omega (arith, written_records)) ∙ written_here e
          ∙ sym (get_or-set_same (tape_blocks s) k b b (omega (arith, length_blocks s)))

      other : (i : ℕ) → (i ≡ k → ⊥) → i < records_in s → get_or (tape_blocks (tape_written b k s)) i b ≡ get_or (set (tape_blocks s) k b) i b
      other i p h =
          get_d_blocks (tape_written b k s) b (omega (arith, written_records)) ∙ written_other i p
          ∙ sym (get_d_blocks s b h) ∙ sym (get_or-set_other (tape_blocks s) k i b b p)

  -- A tape that passes still does.
  pub written_passes : tape_refusal s ≡ 0 → tape_refusal (tape_written b k s) ≡ 0
  written_passes e = by (eq-zero-or-pos (tape_write_refusal b k s))
    where
      by : (tape_write_refusal b k s ≡ 0) ⊎ (0 < tape_write_refusal b k s) → tape_refusal (tape_written b k s) ≡ 0
      by (inl z) =
          let passed = tape_passed s e in
          ap (λ (f : Fault). f.number)
          (tape_faultless (tape_written b k s) (written_head ∙ passed.0) (λ j h. elim (ℕ_discrete j k) [
            | yes p ↦ ap block_refusal (ap (record_at (tape_written b k s)) p ∙ written_here z) ∙ (written_seen z).0
            | no p ↦ ap block_refusal (written_other j p) ∙ passed.1 j (omega (arith, written_records))
          ]))
      by (inr h) = ap (λ (t : List ℕ). tape_refusal t) (written_refused h) ∙ e

-- A list is cut at the smaller of n and its length as it is cut at n.
take_min : (n : ℕ) (s : List ℕ) → take (min n (length s)) s ≡ take n s
take_min zero s = rw zero-min
take_min (suc n) [] = rw min-zero
take_min (suc n) (x ∷ s) = rw suc-min-suc (ap (λ (t : List ℕ). x ∷ t) (take_min n s))

drop_min : (n : ℕ) (s : List ℕ) → drop (min n (length s)) s ≡ drop n s
drop_min zero s = rw zero-min
drop_min (suc n) [] = rw min-zero
drop_min (suc n) (x ∷ s) = rw suc-min-suc (drop_min n s)

-- The part that is lent begins at record k, or is empty at the tape's end;
pub lent_part : (k : ℕ) (s : List ℕ) (from : ℕ) → from ≡ min (record_start k) (length s) → mid_of from (length s - from) s ≡ drop (record_start k) s
lent_part k s from e =
    take_all (length s - from) (drop from s) (le_of_eq (length-drop from s)) ∙ ap (λ (n : ℕ). drop n s) e ∙ drop_min (record_start k) s

-- what the writer leaves is put back.
pub written_part : (b : Block) (k : ℕ) (s : List ℕ) (from : ℕ) {r : Result ⊤ Refusal} {left : List ℕ} → from ≡ min (record_start k) (length s)
    → Wrote (record_write_refusal b (mid_of from (length s - from) s)) (record_written b (mid_of from (length s - from) s)) r left
    → Wrote (tape_write_refusal b k s) (tape_written b k s) r (put_mid from (length s - from) s left)
unfolding tape_write_refusal tape_written
written_part b k s from e w =
    let lent = lent_part k s from e in
    let before : take from s ≡ take (record_start k) s = ap (λ (n : ℕ). take n s) e ∙ take_min (record_start k) s in
    record {
      number = w.number ∙ ap (record_write_refusal b) lent;
      bytes =
          (λ i. before i ++ ((w.bytes ∙ ap (record_written b) lent) i ++ drop_of_length-le (drop from s) (le_of_eq (length-drop from s)) i))
          ∙ ap (λ (t : List ℕ). take (record_start k) s ++ t) (append-nil (record_written b (drop (record_start k) s)));
    }
