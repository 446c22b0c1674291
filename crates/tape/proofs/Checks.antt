-- The numbers that readers, writers and the check of a tape's head come to, by what their code tests. From the definitions.
use mathlib.Core.Path.{◌≡◌, refl, sym, ap, ◌∙◌}
use mathlib.Core.Bool.{Bool, true, false, not, cond, ◌||◌}
use Prim.Native.Nat.{ℕ, ◌-◌, ◌%◌, ◌≤◌, ◌<◌}
use native.Mathlib.Omega.{arith}
use mathlib.Core.List.{List}
use borrow.Author.Tests.{lt-ltb, le-ltb, ltb-false, eq-eqb, ne_eqb, eqb-true, not-false}
use lib.Dec.{lit<, ltb, eqb}
use lib.ListN.{length}
use Rattle.machine.specs.Checks.{limits_refusal, block_refusal}
use Rattle.machine.specs.declared.Limits.{Limits}
use Rattle.machine.specs.declared.Block.{Block}
use Rattle.tape.specs.Tape.{limits_bytes, limits_at, zero_bits, record_bytes, block_at, records_in}
use Rattle.tape.specs.Answers.{ragged_below, limits_fault, limits_read_refusal, record_read_refusal, limits_write_refusal, record_write_refusal, most_blocks, most_bytes, many_in, ragged_in, head_refusal, read_head}
use Rattle.display.specs.Display.{given, refused}
use Rattle.display.proofs.Answers.{then_first, then_second, then_zero, not_picked, given_is, refused_is}
use Rattle.tape.proofs.Answers.{enough}

-- A number that must be 0, before another: neither is refused.
pub no_fault : (z r : ℕ) → cond (eqb z 0) r 1 ≡ 0 → (z ≡ 0) × (r ≡ 0)
no_fault z r e = told (eqb z 0) refl e
  where
    told : (t : Bool) → eqb z 0 ≡ t → cond t r 1 ≡ 0 → (z ≡ 0) × (r ≡ 0)
    told true p q = (eqb-true z 0 p, q)
    told false p q = absurd (omega arith)

-- Reading a record.
pub record_short : (s : List ℕ) → length s < record_bytes → record_read_refusal s ≡ 9
unfolding record_read_refusal
record_short s h = rw (lt-ltb (length s) record_bytes h)

pub record_long : (s : List ℕ) → record_bytes ≤ length s → record_read_refusal s ≡ block_refusal (block_at s)
unfolding record_read_refusal
record_long s h = then_second (enough record_bytes s h) refl

-- Reading limits.
pub limits_short : (s : List ℕ) → length s < limits_bytes → limits_read_refusal s ≡ 9
unfolding limits_read_refusal
limits_short s h = rw (lt-ltb (length s) limits_bytes h)

pub limits_long : (s : List ℕ) → limits_bytes ≤ length s → limits_read_refusal s ≡ limits_fault s
unfolding limits_read_refusal
limits_long s h = then_second (enough limits_bytes s h) refl

pub limits_bits : (s : List ℕ) → (zero_bits s ≡ 0 → ⊥) → limits_fault s ≡ 1
unfolding limits_fault
limits_bits s h = rw (ne_eqb (zero_bits s) 0 h)

pub limits_zeros : (s : List ℕ) → zero_bits s ≡ 0 → limits_fault s ≡ limits_refusal (limits_at s)
unfolding limits_fault
limits_zeros s e = rw (eq-eqb (zero_bits s) 0 e)

pub limits_faultless : (s : List ℕ) → limits_fault s ≡ 0 → (zero_bits s ≡ 0) × (limits_refusal (limits_at s) ≡ 0)
unfolding limits_fault
limits_faultless s e = no_fault (zero_bits s) (limits_refusal (limits_at s)) e

-- Writing, where a refusal of the fields comes first.
module _ (b : Block) (s : List ℕ) where
  pub record_fields : 0 < block_refusal b → record_write_refusal b s ≡ block_refusal b
  unfolding record_write_refusal
  record_fields h = then_first (ragged_below record_bytes s) h

  pub record_room : block_refusal b ≡ 0 → record_write_refusal b s ≡ ragged_below record_bytes s
  unfolding record_write_refusal
  record_room e = then_second e refl

module _ (l : Limits) (s : List ℕ) where
  pub limits_fields_lem : 0 < limits_refusal l → limits_write_refusal l s ≡ limits_refusal l
  unfolding limits_write_refusal
  limits_fields_lem h = then_first (ragged_below limits_bytes s) h

  pub limits_room : limits_refusal l ≡ 0 → limits_write_refusal l s ≡ ragged_below limits_bytes s
  unfolding limits_write_refusal
  limits_room e = then_second e refl

-- The head of a whole tape.
module _ (s : List ℕ) where
  pub head_many : most_bytes < length s → head_refusal s ≡ 10
  unfolding head_refusal
  head_many h = rw (lt-ltb most_bytes (length s) h)

  pub head_short : length s ≤ most_bytes → length s < limits_bytes → head_refusal s ≡ 9
  unfolding head_refusal
  head_short m h = rw (le-ltb most_bytes (length s) m, lt-ltb (length s) limits_bytes h)

  pub head_ragged : length s ≤ most_bytes → limits_bytes ≤ length s → ((length s - limits_bytes) % record_bytes ≡ 0 → ⊥) → head_refusal s ≡ 9
  unfolding head_refusal
  head_ragged m l h = rw (le-ltb most_bytes (length s) m, le-ltb (length s) limits_bytes l, ne_eqb ((length s - limits_bytes) % record_bytes) 0 h)

  pub head_limits : length s ≤ most_bytes → limits_bytes ≤ length s → (length s - limits_bytes) % record_bytes ≡ 0 → head_refusal s ≡ limits_fault s
  unfolding head_refusal
  head_limits m l e = rw (le-ltb most_bytes (length s) m, le-ltb (length s) limits_bytes l, eq-eqb ((length s - limits_bytes) % record_bytes) 0 e)

  -- What a head that passes says of the tape.
  pub record Head : Type 0 where
    pub most : length s ≤ most_bytes
    pub least : limits_bytes ≤ length s
    pub whole : (length s - limits_bytes) % record_bytes ≡ 0
    pub limits : limits_fault s ≡ 0

  pub head_passed : head_refusal s ≡ 0 → Head
  unfolding head_refusal
  head_passed e =
      let many = then_zero (many_in s) e in
      let ragged = then_zero (ragged_in s) many.1 in
      let fits = neither (ltb (length s) limits_bytes) (not (eqb ((length s - limits_bytes) % record_bytes) 0)) (not_picked _ (lit< tt) ragged.0) in
      record {
        most = ltb-false most_bytes (length s) (not_picked (ltb most_bytes (length s)) (lit< tt) many.0);
        least = ltb-false (length s) limits_bytes fits.0;
        whole = eqb-true ((length s - limits_bytes) % record_bytes) 0 (not-false _ fits.1);
        limits = ragged.1;
      }
    where
      neither : (a b : Bool) → a || b ≡ false → (a ≡ false) × (b ≡ false)
      neither true b e = let z : ◌≡◌ {A = ℕ} 0 1 = cc in absurd (omega arith)
      neither false b e = (refl, e)

  -- Such a tape has not more records than the most.
  pub head_records : Head → records_in s ≤ most_blocks
  head_records h = omega (arith, h.most)

  -- What reading the head gives, or refuses.
  pub head_given : {l : Limits} → read_head s ≡ given l → (head_refusal s ≡ 0) × ((limits_at s ≡ l) × (limits_refusal l ≡ 0))
  unfolding read_head
  head_given e =
      let r = given_is (limits_at s) (head_refusal s) (head_refusal s) (sym e) in
      (r.0, (sym r.1, ap limits_refusal r.1 ∙ (limits_faultless s (head_passed r.0).limits).1))

  pub head_refused : {n : ℕ} → read_head s ≡ refused n → (0 < n) × (head_refusal s ≡ n)
  unfolding read_head
  head_refused e =
      let r = refused_is (limits_at s) (head_refusal s) (head_refusal s) (sym e) in
      (rw (← r.1) at r.0, sym r.1)
