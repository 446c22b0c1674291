-- A value in bytes, of any layout: written and read, read and written, and what stays. From the laws of `fields`.
use mathlib.Core.Path.{◌≡◌, refl, sym, ap, ◌∙◌}
use Prim.Native.Nat.{ℕ, zero, suc, zero-le, ◌+◌, ◌*◌, ◌%◌, ◌^◌, ◌≤◌, ◌<◌}
use native.Mathlib.Nat.{mod-eq_of_lt, zero-add}
use native.Mathlib.Omega.{arith}
use mathlib.Core.List.{List, ◌++◌}
use borrow.Author.Tests.{ltb-false}
use lib.Dec.{lit<, ltb}
use lib.ListN.{length, take, drop, length-append}
use lib.Seq.{take-append-le}
use Rattle.fields.specs.Layouts.{total, joined, split, InWidths}
use Rattle.fields.specs.Bytes.{Bytes, number_of, bytes_of, with_bytes}
use Rattle.fields.proofs.Layouts.{joined_split}
use Rattle.fields.proofs.Bytes.{bytes_take, bytes_number, part_lt, length_part, length_with, drop_with}
use Rattle.fields.proofs.Fields.{split_stored}
use Rattle.display.specs.Display.{by_number, ◌then◌, Outcome, given, refused}
use Rattle.tape.specs.Answers.{ragged_below}
use Rattle.display.proofs.Answers.{at_zero, above_zero, then_second, then_zero, not_picked, gives, given_is}
use Rattle.tape.proofs.Answers.{enough}

-- A value that stands in fields in the first bytes, read and written in the order of document 01.
pub record Form (A : Type 0) : Type 0 where
  -- how many bytes it needs, and their layout
  pub bytes : ℕ
  pub layout : List ℕ
  -- the fields of a value, and the value of fields
  pub fields_of : A → List ℕ
  pub from : List ℕ → A
  -- the number on the display of a value, and of fields
  pub refusal : A → ℕ
  pub fault : List ℕ → ℕ

module _ {A : Type 0} (form : Form A) where
  abbrev n : ℕ
  n = form.bytes

  abbrev ws : List ℕ
  ws = form.layout

  abbrev pub values : List ℕ → List ℕ
  values s = split ws (number_of (take n s))

  abbrev pub read_number : List ℕ → ℕ
  read_number s = ragged_below n s then form.fault (values s)

  abbrev pub reading : List ℕ → Outcome ℕ A
  reading s = by_number (read_number s) (given (form.from (values s))) (refused (read_number s))

  abbrev pub write_number : A → List ℕ → ℕ
  write_number a s = form.refusal a then ragged_below n s

  abbrev pub stored : A → List ℕ → List ℕ
  stored a s = with_bytes s 0 n (joined ws (form.fields_of a))

  abbrev pub writing : A → List ℕ → List ℕ
  writing a s = by_number (write_number a s) (stored a s) s

  -- The layout fills the bytes, a value that passes is whole in its fields, and fields that pass are whole in their value.
  pub record Lossless : Type 0 where
    pub width : total ws ≡ 8 * n
    pub fits : (a : A) → form.refusal a ≡ 0 → InWidths ws (form.fields_of a)
    pub back : (a : A) → form.refusal a ≡ 0 → (form.from (form.fields_of a) ≡ a) × (form.fault (form.fields_of a) ≡ 0)
    pub forth : (m : ℕ) → form.fault (split ws m) ≡ 0
        → (form.refusal (form.from (split ws m)) ≡ 0) × (form.fields_of (form.from (split ws m)) ≡ split ws m)

  -- On a refusal no byte changes.
  pub refused_same : (a : A) (s : List ℕ) → 0 < write_number a s → writing a s ≡ s
  refused_same a s h = above_zero (stored a s) s h

  -- Bytes beyond the first n never change.
  pub beyond_same : (a : A) (s : List ℕ) → drop n (writing a s) ≡ drop n s
  beyond_same a s = by (write_number a s)
    where
      by : (r : ℕ) → drop n (by_number r (stored a s) s) ≡ drop n s
      by zero = rw (zero-add n) at (drop_with s 0 n (joined ws (form.fields_of a)) zero-le)
      by (suc r) = refl

  -- No byte is added or lost.
  pub length_same : (a : A) (s : List ℕ) → length (writing a s) ≡ length s
  length_same a s = by (write_number a s) refl
    where
      by : (r : ℕ) → write_number a s ≡ r → length (by_number r (stored a s) s) ≡ length s
      by zero e =
          let l = ltb-false (length s) n (not_picked (ltb (length s) n) (lit< tt) (then_zero (form.refusal a) e).1) in
          length_with s 0 n (joined ws (form.fields_of a)) (rw (zero-add n) l)
      by (suc r) e = refl

  -- An accepted call stores the value.
  pub accepted : (a : A) (s : List ℕ) → form.refusal a ≡ 0 → n ≤ length s → writing a s ≡ stored a s
  accepted a s e l = at_zero (stored a s) s (then_second e (enough n s l))

  -- What a reader takes: bytes that are long enough and at no fault, and say the value.
  pub record Takes (s : List ℕ) (a : A) : Type 0 where
    pub long : n ≤ length s
    pub whole : form.fault (values s) ≡ 0
    pub says : form.from (values s) ≡ a

  pub taken : (s : List ℕ) {a : A} → reading s ≡ given a → Takes s a
  taken s e =
      let r = given_is (form.from (values s)) (read_number s) (read_number s) (sym e) in
      let z = then_zero (ragged_below n s) r.0 in
      record { long = ltb-false (length s) n (not_picked (ltb (length s) n) (lit< tt) z.0); whole = z.1; says = sym r.1 }

  pub takes : {s : List ℕ} {a : A} → Takes s a → reading s ≡ given a
  takes {s} t = sym (gives (form.from (values s)) (read_number s) (then_second (enough n s t.long) t.whole) (sym t.says))

  -- Later bytes play no part.
  pub later : (s t : List ℕ) → n ≤ length s → reading (s ++ t) ≡ reading s
  later s t l =
      let e : take n (s ++ t) ≡ take n s = take-append-le n s t l in
      let long : n ≤ length (s ++ t) = omega (arith, length-append s t) in
      let number : read_number (s ++ t) ≡ read_number s =
      (λ i. enough n (s ++ t) long i then form.fault (split ws (number_of (e i)))) ∙ (λ i. sym (enough n s l) i then form.fault (values s)) in
      λ i. by_number (number i) (given (form.from (split ws (number_of (e i))))) (refused (number i))

  module _ (lossless : Lossless) where
    -- What a reader takes passes.
    pub passes : {s : List ℕ} {a : A} → Takes s a → form.refusal a ≡ 0
    passes {s} t = ap form.refusal (sym t.says) ∙ (lossless.forth (number_of (take n s)) t.whole).0

    -- Written and then read.
    pub written_read : (a : A) (s : List ℕ) → form.refusal a ≡ 0 → n ≤ length s → reading (writing a s) ≡ given a
    written_read a s e l =
        let v : values (stored a s) ≡ form.fields_of a = split_stored 0 n ws lossless.width s (form.fields_of a) zero-le (lossless.fits a e) in
        let b = lossless.back a e in
        ap reading (accepted a s e l)
        ∙ takes (record {
          long = rw (length_with s 0 n (joined ws (form.fields_of a)) (rw (zero-add n) l)) l;
          whole = ap form.fault v ∙ b.1;
          says = ap form.from v ∙ b.0;
        })

    -- Read and then written, into any t: the same bytes.
    pub read_written : {s : List ℕ} {a : A} → Bytes s → reading s ≡ given a → (t : List ℕ) → n ≤ length t
        → writing a t ≡ take n s ++ drop n t
    unfolding with_bytes
    read_written {s} {a} h e t l =
        let r = taken s e in
        let k : 0 + n ≤ length s = omega (arith, r.long) in
        let number : joined ws (form.fields_of a) ≡ number_of (take n s) =
        ap (λ (b : A). joined ws (form.fields_of b)) (sym r.says) ∙ ap (joined ws) (lossless.forth (number_of (take n s)) r.whole).1 ∙ joined_split ws (number_of (take n s))
        ∙ ap (λ (w : ℕ). number_of (take n s) % 2 ^ w) lossless.width ∙ mod-eq_of_lt (part_lt 0 n h k) in
        let bytes : bytes_of n (number_of (take n s)) ≡ take n s = rw (length_part s 0 n k) at (bytes_number (bytes_take n h)) in
        accepted a t (passes r) l
        ∙ (λ i. bytes_of n (number i) ++ drop (zero-add n i) t) ∙ ap (λ (u : List ℕ). u ++ drop n t) bytes
