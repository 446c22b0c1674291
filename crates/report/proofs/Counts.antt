-- Counts, sums, greatest numbers and lists of sequences: how large they are, and that sequences with the same numbers have the same. From the definitions.
use Rattle.std.proofs.Common.{◌≡◌, ℕ, zero, suc, ◌+◌, ◌*◌, ◌<◌, ◌≤◌, max, Bool, true, false, eqb, ◌∷◌, refl, ap, not-suc-le-zero, add-zero, suc-mul, zero-add, arith}
use native.Mathlib.Decide.{dec_le, dec_lt}
use Rattle.report.specs.Counts.{one, count_to, sum_to, greatest_to, list_from, times_in}

-- A count is at most how many are counted,
one_below : (t : Bool) → one t ≤ 1
one_below true = omega arith
one_below false = omega arith

pub count_below : (test : ℕ → Bool) (k : ℕ) → count_to test k ≤ k
unfolding count_to
count_below test zero = omega arith
count_below test (suc k) = omega (arith, count_below test k, one_below (test k))

-- a sum of numbers that are at most b is at most as many times b.
pub sum_below : (f : ℕ → ℕ) (b k : ℕ) → ((i : ℕ) → i < k → f i ≤ b) → sum_to f k ≤ k * b
unfolding sum_to
sum_below f b zero h = omega arith
sum_below f b (suc k) h = omega (arith, sum_below f b k (λ i l. h i (omega arith)), h k (omega arith), suc-mul k b)

-- The greatest of them is not below any, and one of them.
pub greatest_above : (f : ℕ → ℕ) (k i : ℕ) → i < k → f i ≤ greatest_to f k
unfolding greatest_to
greatest_above f zero i h = absurd (not-suc-le-zero h)
greatest_above f (suc k) i h = go (dec_lt i k) (greatest_above f k i)
  where
    go : Dec (i < k) → (i < k → f i ≤ greatest_to f k) → f i ≤ max (greatest_to f k) (f k)
    go (yes g) above = omega (arith, above g)
    go (no g) above = let same : i ≡ k = omega arith in omega (arith, ap f same)

pub greatest_one : (f : ℕ → ℕ) (k : ℕ) → 0 < k → (i : ℕ) × (i < k) × (greatest_to f k ≡ f i)
unfolding greatest_to
greatest_one f zero h = absurd (not-suc-le-zero h)
greatest_one f (suc zero) h = (0, omega arith, omega arith)
greatest_one f (suc (suc k)) h = go (dec_le (greatest_to f (suc k)) (f (suc k))) (greatest_one f (suc k) (omega arith))
  where
    go : Dec (greatest_to f (suc k) ≤ f (suc k)) → (i : ℕ) × (i < suc k) × (greatest_to f (suc k) ≡ f i)
        → (i : ℕ) × (i < suc (suc k)) × (max (greatest_to f (suc k)) (f (suc k)) ≡ f i)
    go (yes g) before = (suc k, omega arith, omega arith)
    go (no g) before = (before.0, omega (arith, before.1), omega (arith, before.2))

-- The same numbers have the same count, sum, greatest number and list.
pub count_same : (f g : ℕ → Bool) (k : ℕ) → ((i : ℕ) → i < k → f i ≡ g i) → count_to f k ≡ count_to g k
unfolding count_to
count_same f g zero e = refl
count_same f g (suc k) e = let all = count_same f g k (λ i l. e i (omega arith)) in (λ i. all i + one (e k (omega arith) i))

module _ (f g : ℕ → ℕ) where
  pub sum_same : (k : ℕ) → ((i : ℕ) → i < k → f i ≡ g i) → sum_to f k ≡ sum_to g k
  unfolding sum_to
  sum_same zero e = refl
  sum_same (suc k) e = let all = sum_same k (λ i l. e i (omega arith)) in (λ i. all i + e k (omega arith) i)

  pub greatest_same : (k : ℕ) → ((i : ℕ) → i < k → f i ≡ g i) → greatest_to f k ≡ greatest_to g k
  unfolding greatest_to
  greatest_same zero e = refl
  greatest_same (suc k) e = let all = greatest_same k (λ i l. e i (omega arith)) in (λ i. max (all i) (e k (omega arith) i))

  -- a list from number k on
  pub list_same : (k n : ℕ) → ((i : ℕ) → k ≤ i → i < k + n → f i ≡ g i) → list_from f k n ≡ list_from g k n
  unfolding list_from
  list_same k zero e = refl
  list_same k (suc n) e =
      let rest = list_same (suc k) n (λ i h l. e i (omega arith) (omega arith)) in
      (λ i. e k (omega arith) (omega arith) i ∷ rest i)

-- How often a number stands in a list is how many are equal to it.
module _ (f : ℕ → ℕ) (what : ℕ) where
  abbrev same : ℕ → Bool
  same i = eqb (f i) what

  times_from : (k n : ℕ) → count_to same k + times_in what (list_from f k n) ≡ count_to same (k + n)
  unfolding count_to times_in list_from
  times_from k zero = omega (arith, ap (count_to same) (add-zero k))
  times_from k (suc n) =
      let at : suc k + n ≡ k + suc n = omega arith in
      omega (arith, times_from (suc k) n, ap (count_to same) at)

  pub count_listed : (n : ℕ) → times_in what (list_from f 0 n) ≡ count_to same n
  unfolding count_to
  count_listed n = omega (arith, times_from 0 n, ap (count_to same) (zero-add n))
