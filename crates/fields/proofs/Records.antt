-- Records of bytes: one more, those of bytes that others follow, and those that follow. From the definitions and the laws of lists.
use mathlib.Core.Path.{◌≡◌, refl, sym, ap, ◌∙◌}
use mathlib.Core.Bool.{cond}
use mathlib.Core.List.{List, ◌∷◌, ◌++◌, []}
use Prim.Native.Nat.{ℕ, zero, suc, ◌+◌, ◌*◌, ◌/◌, ◌%◌, ◌≤◌, ◌<◌}
use native.Mathlib.Nat.{add-zero, zero-add, add_assoc, mul-suc, mul-add, mul-le-mul_left, mul-add-div, mul-add-mod_self_left, zero-mod}
use native.Mathlib.Omega.{arith}
use lib.Dec.{eqb}
use lib.ListN.{length, take, drop, length-append, length-drop}
use lib.Seq.{take-append-le, drop-append-le, drop-append-add}
use Rattle.fields.specs.Records.{record_in, each_record, whole_records, cut_place}

-- A record of bytes that others follow, and one of those that follow.
record_before : (size : ℕ) (bytes more : List ℕ) (k : ℕ) → size * suc k ≤ length bytes → record_in size (bytes ++ more) k ≡ record_in size bytes k
record_before size bytes more k h =
    ap (take size) (drop-append-le (size * k) bytes more (omega (arith, mul-suc size k)))
    ∙ take-append-le size (drop (size * k) bytes) more (omega (arith, mul-suc size k, length-drop (size * k) bytes))

record_behind : (size : ℕ) (bytes more : List ℕ) (n k : ℕ) → length bytes ≡ size * n → record_in size (bytes ++ more) (n + k) ≡ record_in size more k
record_behind size bytes more n k e =
    let place : size * (n + k) ≡ length bytes + size * k = mul-add size n k ∙ ap (λ (i : ℕ). i + size * k) (sym e) in
    ap (λ (i : ℕ). take size (drop i (bytes ++ more))) place ∙ ap (take size) (drop-append-add bytes more (size * k))

module _ {A : Type 0} (size : ℕ) (says : List ℕ → A) where
  -- One record more.
  pub records_more : (bytes : List ℕ) (k n : ℕ) → each_record size says bytes k (suc n) ≡ each_record size says bytes k n ++ says (record_in size bytes (k + n)) ∷ []
  unfolding each_record
  records_more bytes k zero = rw (add-zero k)
  records_more bytes k (suc n) =
      let e : suc k + n ≡ k + suc n = omega arith in
      ap (λ (l : List A). says (record_in size bytes k) ∷ l)
      (records_more bytes (suc k) n ∙ ap (λ (i : ℕ). each_record size says bytes (suc k) n ++ says (record_in size bytes i) ∷ []) e)

  -- Those that follow n whole records,
  records_behind : (bytes more : List ℕ) (n k m : ℕ) → length bytes ≡ size * n → each_record size says (bytes ++ more) (n + k) m ≡ each_record size says more k m
  unfolding each_record
  records_behind bytes more n k zero e = refl
  records_behind bytes more n k (suc m) e =
      let next : suc (n + k) ≡ n + suc k = omega arith in
      (λ i. says (record_behind size bytes more n k e i)
      ∷ (ap (λ (j : ℕ). each_record size says (bytes ++ more) j m) next ∙ records_behind bytes more n (suc k) m e) i)

  -- and both, from record k of the first on.
  records_both : (bytes more : List ℕ) (n k left m : ℕ) → length bytes ≡ size * n → k + left ≡ n
      → each_record size says (bytes ++ more) k (left + m) ≡ each_record size says bytes k left ++ each_record size says more 0 m
  unfolding each_record
  records_both bytes more n k zero m e s =
      let at : k ≡ n + 0 = omega arith in
      rw (zero-add m) (ap (λ (j : ℕ). each_record size says (bytes ++ more) j m) at ∙ records_behind bytes more n 0 m e)
  records_both bytes more n k (suc left) m e s =
      let more_left : suc left + m ≡ suc (left + m) = omega arith in
      let there : suc k ≤ n = omega arith in
      let room : size * suc k ≤ length bytes = rw e (mul-le-mul_left size there) in
      rw more_left (λ i. says (record_before size bytes more k room i) ∷ records_both bytes more n (suc k) left m e (omega arith) i)

  -- All whole records, of n and of the bytes behind them.
  pub whole_both : 0 < size → (bytes more : List ℕ) (n : ℕ) → length bytes ≡ size * n
      → whole_records size says (bytes ++ more) ≡ each_record size says bytes 0 n ++ whole_records size says more
  whole_both sized bytes more n e =
      let long : length (bytes ++ more) ≡ size * n + length more = length-append bytes more ∙ ap (λ (i : ℕ). i + length more) e in
      ap (λ (i : ℕ). each_record size says (bytes ++ more) 0 (i / size)) long
      ∙ ap (each_record size says (bytes ++ more) 0) (mul-add-div sized n (length more))
      ∙ records_both bytes more n 0 n (length more / size) e (zero-add n)

-- The place of a cut record: none where there is no byte, and the same behind n whole records.
module _ (size : ℕ) where
  pub cut_none : (records : ℕ) → cut_place size records 0 ≡ 0
  cut_none records = ap (λ (part : ℕ). cond (eqb part 0) 0 (records + 0 / size + 1)) (zero-mod size)

  pub cut_behind : 0 < size → (records n bytes : ℕ) → cut_place size (records + n) bytes ≡ cut_place size records (size * n + bytes)
  cut_behind sized records n bytes =
      let part : bytes % size ≡ (size * n + bytes) % size = sym (mul-add-mod_self_left size n bytes) in
      let place : records + n + bytes / size ≡ records + (size * n + bytes) / size =
      add_assoc records n (bytes / size) ∙ ap (λ (i : ℕ). records + i) (sym (mul-add-div sized n bytes)) in
      λ i. cond (eqb (part i) 0) 0 (place i + 1)
